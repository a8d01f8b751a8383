-- `integer_math::quotient` meets its contract: the magnitude is divided, and a negative quotient is -1 less it.
-- Assumes nothing.
use Rattle.base.proofs.Machine.{quotient_fits, flip_quotient_fits, quotient_below, quotient_above}
use Rattle.integer_math.proofs.quotient.Goals as goal

pub overflow_cast-result : goal.overflow_cast-result
overflow_cast-result c = quotient_fits c.ranges.numer _ c.args.denom c.magnitude.ensures

pub overflow_sub-result : goal.overflow_sub-result
overflow_sub-result c = flip_quotient_fits c.ranges.numer _ c.args.denom c.magnitude.ensures

pub overflow_cast-result-else-numer-lt0 : goal.overflow_cast-result-else-numer-lt0
overflow_cast-result-else-numer-lt0 c = quotient_fits c.ranges.numer _ c.args.denom c.magnitude.ensures

pub returns-then-numer-lt0 : goal.returns-then-numer-lt0
returns-then-numer-lt0 c = quotient_below c.ranges.numer _ c.args.denom c.magnitude.ensures c.if-numer-lt0.true

pub returns-else-numer-lt0 : goal.returns-else-numer-lt0
returns-else-numer-lt0 c = quotient_above c.ranges.numer _ c.args.denom c.magnitude.ensures c.if-numer-lt0.false
