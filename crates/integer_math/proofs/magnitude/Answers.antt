-- `integer_math::magnitude` meets its contract: -1 - z is the magnitude of a negative z, and z that of any other.
-- Assumes nothing.
use mathlib.Core.Path.{ap}
use lib.IntN.{nat_abs}
use Rattle.base.proofs.Machine.{flip_fits, flipped, kept, mag_cast}
use Rattle.integer_math.proofs.magnitude.Goals as goal

pub overflow_sub-result : goal.overflow_sub-result
overflow_sub-result c = flip_fits c.ranges.z c.if-z-lt0.true

pub overflow_cast-result : goal.overflow_cast-result
overflow_cast-result c = mag_cast c.ranges.z (flipped c.ranges.z c.if-z-lt0.true)

pub overflow_cast-result-else-z-lt0 : goal.overflow_cast-result-else-z-lt0
overflow_cast-result-else-z-lt0 c = mag_cast c.ranges.z (kept c.ranges.z c.if-z-lt0.false)

pub returns-then-z-lt0 : goal.returns-then-z-lt0
returns-then-z-lt0 c = ap nat_abs (flipped c.ranges.z c.if-z-lt0.true)

pub returns-else-z-lt0 : goal.returns-else-z-lt0
returns-else-z-lt0 c = ap nat_abs (kept c.ranges.z c.if-z-lt0.false)
