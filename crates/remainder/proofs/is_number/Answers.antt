-- The result tells whether x is a number.
-- No loop; between the infinities stand the numbers alone.
use lib.Ieee.{div, neg, of_bits}
use Rattle.remainder.proofs.Modulo.{is_number}
use Rattle.remainder.proofs.is_number.Goals as goal

pub returns : goal.returns
unfolding div neg of_bits
returns c = is_number c.args.x
