-- `integer_math::sum` meets its contract: 64 bits hold what two numbers of 32 bits make.
-- Assumes nothing.
use native.Mathlib.Omega.{arith}
use lib.IntN.{◌+ℤ◌}
use mir.Syntax.{w64}
use Rattle.base.proofs.Integers.{mag_add}
use Rattle.base.proofs.Machine.{widen_fits, exact_fits, exact_is}
use Rattle.integer_math.proofs.sum.Goals as goal

pub overflow_cast-result : goal.overflow_cast-result
overflow_cast-result c = widen_fits w64 tt c.ranges.a

pub overflow_cast-result-2 : goal.overflow_cast-result-2
overflow_cast-result-2 c = widen_fits w64 tt c.ranges.b

pub overflow_add-result : goal.overflow_add-result
overflow_add-result c = exact_fits ◌+ℤ◌ (λ x y. omega (arith, mag_add x y)) c.ranges.a c.ranges.b

pub returns : goal.returns
returns c = exact_is ◌+ℤ◌ (λ x y. omega (arith, mag_add x y)) c.ranges.a c.ranges.b
