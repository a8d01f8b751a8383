-- `integer_math::to_i32` meets its contract: within both ends the cast loses nothing, and outside either it is 11.
-- Assumes nothing.
use Rattle.base.proofs.Machine.{narrow_fits, held_here, held_under, held_over}
use Rattle.integer_math.proofs.to_i32.Goals as goal

pub overflow_cast-result : goal.overflow_cast-result
overflow_cast-result c = narrow_fits c.ranges.z c.if-z-geminus2147483648.true c.if-z-le2147483647.true

pub returns-then-z-le2147483647 : goal.returns-then-z-le2147483647
returns-then-z-le2147483647 c = held_here c.ranges.z c.if-z-geminus2147483648.true c.if-z-le2147483647.true

pub returns-else-z-le2147483647 : goal.returns-else-z-le2147483647
returns-else-z-le2147483647 c = held_over c.ranges.z c.if-z-geminus2147483648.true c.if-z-le2147483647.false

pub returns-else-z-geminus2147483648 : goal.returns-else-z-geminus2147483648
returns-else-z-geminus2147483648 c = held_under c.ranges.z c.if-z-geminus2147483648.false
