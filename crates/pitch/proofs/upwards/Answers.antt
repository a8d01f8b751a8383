-- `upwards` meets its contract: turned over between -1 and 1.
-- Assumes nothing.
use lib.Ieee.{of_bits, neg}
use Rattle.pitch.specs.Ratios.{upward}
use Rattle.pitch.proofs.upwards.Goals as goal

pub returns-then-x-2 : goal.returns-then-x-2
unfolding upward of_bits neg
returns-then-x-2 c = rw (c.if-x.true, c.if-x-2.true)

pub returns-else-x-2 : goal.returns-else-x-2
unfolding upward of_bits neg
returns-else-x-2 c = rw (c.if-x.true, c.if-x-2.false)

pub returns-else-x : goal.returns-else-x
unfolding upward of_bits neg
returns-else-x c = rw c.if-x.false
