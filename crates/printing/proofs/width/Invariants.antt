-- `width` meets its contract. The loop's invariant: what is left of n has as many digits more as were not counted yet.
-- The measure is what is left of 19.
use mathlib.Core.Path.{◌≡◌}
use Prim.Native.Nat.{◌+◌, ◌-◌, ◌^◌, ◌≤◌, ◌<◌}
use native.Mathlib.Omega.{arith}
use Rattle.printing.specs.PrintText.{width_of}
use Rattle.printing.proofs.Texts.{width_one, width_step, shorter}
use Rattle.printing.proofs.width.Given as goal

abbrev pub invariant-loop-rest : goal.invariant-loop-rest
invariant-loop-rest l = (1 ≤ l.k) × (l.k ≤ 18) × (l.rest < 10 ^ (19 - l.k)) × (width_of 18 l.n + 1 ≡ l.k + width_of (19 - l.k) l.rest)

abbrev pub decreases-loop-rest : goal.decreases-loop-rest
decreases-loop-rest l = 19 - l.k
