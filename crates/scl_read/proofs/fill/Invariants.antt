-- `fill` writes place 0 and the items that the text gives. The invariant: of what the lines say a part is left, and the items of what
-- came before it stand in the columns.
use Prim.Native.Nat.{◌≤◌, ◌-◌}
use lib.ListN.{length, drop}
use Rattle.scl.proofs.Table.{Roomy}
use Rattle.scl.specs.Table.{item_table}
use Rattle.text.specs.ReadLine.{said_in}
use Rattle.scl_read.specs.Reader.{items_read}
use Rattle.scl_read.proofs.Fills.{SameLengths, Filled}
use Rattle.scl_read.proofs.fill.Given as goal

abbrev pub invariant-loop-at : goal.invariant-loop-at
invariant-loop-at l =
    (l.at ≤ length l.text) × SameLengths (item_table l.kind l.cents l.numer l.denom) (item_table l.initial.kind l.initial.cents l.initial.numer l.initial.denom) × Roomy (length (items_read l.text)) (item_table l.initial.kind l.initial.cents l.initial.numer l.initial.denom)
    × Filled (said_in l.text) (item_table l.initial.kind l.initial.cents l.initial.numer l.initial.denom) l.required (said_in (drop l.at l.text)) (item_table l.kind l.cents l.numer l.denom) l.n

abbrev pub decreases-loop-at : goal.decreases-loop-at
decreases-loop-at l = length l.text - l.at
