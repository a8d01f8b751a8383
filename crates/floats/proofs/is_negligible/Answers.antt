-- The result tells whether x lies in [0.999999, 1.000001).
-- No loop; the two tests are the definition's.
use Rattle.std.proofs.Common.{refl}
use Rattle.floats.proofs.is_negligible.Goals as goal

pub returns : goal.returns
returns c = refl
