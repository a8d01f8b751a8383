-- `number` meets its contract. The invariant: the first i places hold their own numbers.
use mathlib.Core.Path.{◌≡◌}
use Prim.Native.Nat.{◌≤◌}
use lib.ListN.{length, take}
use Rattle.sorted.specs.Lent.{from}
use Rattle.sorted.proofs.number.Given as goal

abbrev pub invariant-loop-i : goal.invariant-loop-i
invariant-loop-i l = (length l.place ≡ length l.initial.place) × (l.i ≤ length l.initial.place) × (take l.i l.place ≡ from 0 l.i)
