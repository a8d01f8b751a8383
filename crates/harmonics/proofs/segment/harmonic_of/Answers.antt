-- `harmonic_of` meets its contract: the candidates, their quotients, the cast of the nearer one.
-- Assumes nothing.
use Rattle.std.proofs.Common.{ap}
use lib.Ieee.{neg}
use Rattle.harmonics.proofs.Fractions.{harmonic_low, harmonic_high}
use Rattle.harmonics.proofs.segment.harmonic_of.Goals as goal

pub returns-then-h-low : goal.returns-then-h-low
returns-then-h-low c = harmonic_low c.args.h c.floor_of-low.ensures (ap neg c.floor_of-high.ensures) c.if-h-low.true c.as_u32.ensures

pub returns-else-h-low : goal.returns-else-h-low
returns-else-h-low c = harmonic_high c.args.h c.floor_of-low.ensures (ap neg c.floor_of-high.ensures) c.if-h-low.false c.as_u32-else-h-low.ensures
