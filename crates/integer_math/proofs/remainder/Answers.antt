-- `integer_math::remainder` meets its contract: what the magnitude leaves, counted from the other end where it is negative.
-- Assumes nothing.
use native.Mathlib.Omega.{arith}
use native.Mathlib.Nat.{mod-lt}
use Rattle.base.proofs.Machine.{remainder_below, remainder_above}
use Rattle.integer_math.proofs.remainder.Goals as goal

pub overflow_sub-result-then-numer-lt0 : goal.overflow_sub-result-then-numer-lt0
overflow_sub-result-then-numer-lt0 c = omega (arith, mod-lt c.magnitude.result c.requires)

pub returns-then-numer-lt0 : goal.returns-then-numer-lt0
returns-then-numer-lt0 c = remainder_below c.ranges.numer _ c.args.denom c.magnitude.ensures c.if-numer-lt0.true

pub returns-else-numer-lt0 : goal.returns-else-numer-lt0
returns-else-numer-lt0 c = remainder_above c.ranges.numer _ c.args.denom c.magnitude.ensures c.if-numer-lt0.false
