-- `is_in_generator` meets its contract: the constants' bits are the two powers.
use lib.Ieee.{of_bits}
use Rattle.floats.proofs.is_in_generator.Goals as goal

pub returns : goal.returns
unfolding of_bits
returns c = c.is_within.ensures
