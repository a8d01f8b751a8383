-- `make` meets its contract: 18 before anything is written, else the notes in order and the run over them.
-- Assumes nothing.
use mathlib.Core.Path.{sym, ◌∙◌, ap}
use native.Mathlib.Omega.{arith}
use Rattle.base.specs.Said.{gives}
use Rattle.scl.specs.Table.{item_table}
use Rattle.sorted.specs.Lent.{list_table}
use Rattle.scl_tables.proofs.Room.{room_within}
use Rattle.generate.proofs.Made.{all_refused}
use Rattle.rank2.specs.Notes.{pitch_at}
use Rattle.rank2.proofs.Values.{values_of}
use Rattle.rank2.proofs.Calls.{make_beyond, make_all}
use Rattle.rank2.proofs.make.Goals as goal

pub returns-then-is_beyond : goal.returns-then-is_beyond
returns-then-is_beyond c =
    let t = item_table c.args.kind.now c.args.cents.now c.args.numer.now c.args.denom.now in
    let l = list_table c.args.place.now c.args.ratio.now c.args.wraps.now in
    let v = values_of c.args.period c.args.generator_cents c.args.period_cents (record { within = c.requires.2; held = c.well_formed.0.1 }) c.requires.3 c.requires.4 c.args.positive c.args.n (omega (arith, c.well_formed)) in
    let x = all_refused t l (make_beyond (pitch_at c.args.period c.args.generator_cents c.args.period_cents c.args.positive) c.args.n v c.requires.0 t l (omega (arith, c.well_formed)) c.requires.1 (ap gives (sym c.if-is_beyond.true) ∙ c.is_beyond.ensures)) in
    record {
      value = x.0;
      table_after = x.1;
      list_after = x.2;
    }

pub place_notes-requires : goal.place_notes-requires
place_notes-requires c =
    let t = item_table c.args.kind.now c.args.cents.now c.args.numer.now c.args.denom.now in
    let l = list_table c.args.place.now c.args.ratio.now c.args.wraps.now in
    let w = room_within t l in
    (omega (arith, c.well_formed), omega (arith, c.requires.1, w.4), omega (arith, c.requires.1, w.5), omega (arith, c.requires.1, w.6), c.requires.2, c.requires.3, c.requires.4)

pub run-requires : goal.run-requires
run-requires c =
    let t = item_table c.args.kind.now c.args.cents.now c.args.numer.now c.args.denom.now in
    let l = list_table c.args.place.now c.args.ratio.now c.args.wraps.now in
    let w = room_within t l in
    omega (arith, c.requires.1, w.5, c.place_notes.ensures.1.ratios_room)

pub shape_of-place : goal.shape_of-place
shape_of-place c = c.place-2-1.given ∙ c.place-1.given

pub shape_of-ratio : goal.shape_of-ratio
shape_of-ratio c = c.ratio-2-1.given ∙ c.ratio-1.given

pub shape_of-wraps : goal.shape_of-wraps
shape_of-wraps c = c.wraps-2-1.given ∙ c.wraps-1.given

pub returns : goal.returns
returns c =
    let t = item_table c.args.kind.now c.args.cents.now c.args.numer.now c.args.denom.now in
    let l = list_table c.args.place.now c.args.ratio.now c.args.wraps.now in
    let v = values_of c.args.period c.args.generator_cents c.args.period_cents (record { within = c.requires.2; held = c.well_formed.0.1 }) c.requires.3 c.requires.4 c.args.positive c.args.n (omega (arith, c.well_formed)) in
    let x = make_all (pitch_at c.args.period c.args.generator_cents c.args.period_cents c.args.positive) c.args.n v c.requires.0 t l (omega (arith, c.well_formed)) c.requires.1 (ap gives (sym c.if-is_beyond.false) ∙ c.is_beyond.ensures) c.place_notes.ensures.1 c.place_notes.ensures.0 c.run.ensures.value c.run.ensures.table_after c.run.ensures.list_after in
    record {
      value = x.0;
      table_after = x.1;
      list_after = x.2;
    }
