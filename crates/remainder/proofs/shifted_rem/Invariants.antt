-- The result is what is left of digits * 2 ^ shift.
-- Invariant: so much of the shift is left, and the rest has 53 bits. Measure: what is left of the shift.
use mathlib.Core.Path.{◌≡◌, refl, ap, ◌∙◌}
use Prim.Native.Nat.{ℕ, ◌+◌, ◌-◌, ◌*◌, ◌%◌, ◌^◌, ◌≤◌, ◌<◌}
use native.Mathlib.Nat.{mod-lt, lt_of_lt_of_le, le_of_lt}
use native.Mathlib.Omega.{arith}
use lib.Dec.{lit≤}
use lib.Pow.{shl_exact}
use Rattle.remainder.proofs.Modulo.{shift_more}
use Rattle.remainder.proofs.shifted_rem.Given as goal

abbrev pub invariant-loop-left : goal.invariant-loop-left
invariant-loop-left l = (l.rest * 2 ^ l.left % l.by ≡ l.digits * 2 ^ l.shift % l.by) × (l.rest < 2 ^ 53)

abbrev pub decreases-loop-left : goal.decreases-loop-left
decreases-loop-left l = l.left
