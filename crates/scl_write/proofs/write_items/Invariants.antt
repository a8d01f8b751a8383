-- `write_items` meets its contract. The invariant: with the lines that are left written too, from `next` on, the bytes are as
-- promised.
use mathlib.Core.Path.{◌≡◌}
use Prim.Native.Nat.{◌+◌, ◌≤◌}
use lib.ListN.{length}
use lib.Seq.{sets}
use Rattle.scl_write.proofs.ItemLines.{left}
use Rattle.scl_write.proofs.write_items.Given as goal

abbrev pub invariant-loop-before : goal.invariant-loop-before
invariant-loop-before l =
    ((l.before + 1) ≤ l.count + 1) × (length l.out ≡ length l.initial.out) × (l.next + length (left l.count l.items (l.before + 1)) ≡ l.at + length (left l.count l.items 1))
    × (sets l.out l.next (left l.count l.items (l.before + 1)) ≡ sets l.initial.out l.at (left l.count l.items 1))
