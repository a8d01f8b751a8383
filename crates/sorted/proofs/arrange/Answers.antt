-- `arrange` meets its contract: the three steps one after the other.
-- No loop.
use mathlib.Core.Path.{sym, ◌∙◌, ap}
use lib.ListN.{length}
use Rattle.sorted.proofs.Numbering.{length_from, from_ascends, arranges}
use Rattle.sorted.proofs.arrange.Goals as goal

pub sort_entries-requires : goal.sort_entries-requires
sort_entries-requires c =
    let l = ap length c.number.ensures ∙ length_from 0 _ in
    (c.requires.0 ∙ sym l, c.requires.1 ∙ sym l, rw c.number.ensures (from_ascends (length c.args.place.now)), c.requires.3)

pub returns : goal.returns
returns c = arranges c.args.ratio.now c.args.wraps.now c.number.ensures c.sort_entries.ensures c.keep_first.ensures
