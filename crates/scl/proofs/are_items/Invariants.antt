-- `are_items` meets its contract. The invariant: `all` says whether the items up to i can be used, and what is left decides with it.
-- Assumes nothing.
use Rattle.scl.specs.Table.{item_table}
use Rattle.scl.proofs.Table.{Gone}
use Rattle.scl.proofs.are_items.Given as goal

abbrev pub invariant-loop-i : goal.invariant-loop-i
invariant-loop-i l = Gone l.n (item_table l.kind l.cents l.numer l.denom) l.all l.i
