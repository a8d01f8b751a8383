-- The result tells whether x lies in -900..900.
-- No loop; the constants' bits are the two numbers.
use Rattle.std.proofs.Common.{refl}
use lib.Ieee.{of_bits, neg}
use Rattle.explog.proofs.is_in_powers.Goals as goal

pub returns : goal.returns
unfolding of_bits neg
returns c = refl
