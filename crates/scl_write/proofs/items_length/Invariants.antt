-- `items_length` meets its contract. The invariant: what was counted and the length of the lines that are left make the length of
-- all, and no line is longer than 40.
use mathlib.Core.Path.{◌≡◌}
use Prim.Native.Nat.{◌+◌, ◌*◌, ◌≤◌}
use lib.ListN.{length}
use Rattle.scl.specs.Table.{item_table}
use Rattle.scl_write.proofs.ItemLines.{left}
use Rattle.scl_write.proofs.items_length.Given as goal

abbrev pub invariant-loop-i : goal.invariant-loop-i
invariant-loop-i l =
    let t = item_table l.items.kinds l.items.cents l.items.numers l.items.denoms in
    (l.i ≤ l.count + 1) × (l.total + length (left l.count t l.i) ≡ length (left l.count t 1)) × (l.total ≤ 40 * l.i)
