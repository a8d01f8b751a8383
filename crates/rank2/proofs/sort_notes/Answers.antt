-- `sort_notes` meets its contract: the column of pitch values, the places, and the sort of the entries.
-- No loop.
use mathlib.Core.Path.{sym, ◌∙◌, ap}
use lib.ListN.{length}
use Rattle.sorted.proofs.Numbering.{length_from, from_ascends}
use Rattle.rank2.specs.Notes.{pitch_at}
use Rattle.rank2.proofs.Values.{values_of, filled_length, filled_positive, sorted_column}
use Rattle.rank2.proofs.sort_notes.Goals as goal

pub sort_entries-requires : goal.sort_entries-requires
sort_entries-requires c =
    let l = ap length c.number.ensures ∙ length_from 0 _ in
    let v = values_of c.args.period c.args.generator_cents c.args.period_cents (record { within = c.requires.3; held = c.well_formed.1.1.1.0.1 }) c.requires.4 c.requires.5 c.args.positive (length c.args.ratio.now) c.requires.0 in
    (filled_length v c.fill.ensures ∙ sym c.requires.1 ∙ sym l, c.requires.2 ∙ sym c.requires.1 ∙ sym l, rw c.number.ensures (from_ascends (length c.args.place.now)), filled_positive v c.fill.ensures)

pub returns : goal.returns
returns c =
    let v = values_of c.args.period c.args.generator_cents c.args.period_cents (record { within = c.requires.3; held = c.well_formed.1.1.1.0.1 }) c.requires.4 c.requires.5 c.args.positive (length c.args.ratio.now) c.requires.0 in
    sorted_column (pitch_at c.args.period c.args.generator_cents c.args.period_cents c.args.positive) (length c.args.ratio.now) _ c.args.wraps.now c.number.ensures (filled_length v c.fill.ensures ∙ sym c.requires.1) (c.requires.2 ∙ sym c.requires.1) c.fill.ensures c.sort_entries.ensures
