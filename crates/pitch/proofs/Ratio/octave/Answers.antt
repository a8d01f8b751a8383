-- The result is the ratio 2.0.
-- No loop; the constant's bits are that number.
use mathlib.Core.Path.{refl}
use lib.Ieee.{of_bits}
use Rattle.pitch.proofs.Ratio.octave.Goals as goal

pub returns : goal.returns
unfolding of_bits
returns c = refl
