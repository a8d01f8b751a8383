-- The result is the f64 nearest to n / 2 ^ 52.
-- No loop; one product by a power of two, `ratio_law` of Power.antt.
use Rattle.std.proofs.Common.{ap, ◌∙◌, rules}
use lib.Ieee.{Float, binary64, mul, of_bits}
use Rattle.rounding.proofs.Power.{ratio_law}
use Rattle.rounding.proofs.nearest_ratio.Goals as goal

pub returns : goal.returns
unfolding of_bits
returns c = ap (λ (x : Float). mul binary64 x (of_bits binary64 0x3cb0_0000_0000_0000)) c.nearest_u64_to_f64.ensures ∙ ratio_law c.args.n c.ranges.n.fits
