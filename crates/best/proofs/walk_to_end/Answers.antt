-- The walk. The invariant: what was passed, and that the fraction at hand is ready; the measure is how far its numerator and denominator
-- together are from 131,072. Assumes nothing.
use native.Mathlib.Omega.{arith}
use Rattle.best.proofs.Passing.{begin}
use Rattle.best.proofs.Picked.{one_allowed}
use Rattle.best.proofs.walk_to_end.Goals as goal

pub loop-here-init : goal.loop-here-init
loop-here-init c =
    let one = one_allowed _ c.requires.0 in (
      begin _ _ _,
      record {
        numer_some = omega arith;
        denom_some = omega arith;
        numer_most = omega arith;
        denom_most = omega arith;
        numer_allowed = λ _. one;
        denom_allowed = λ _. one;
        low = record { numer = omega arith; denom = omega arith };
        high = record { numer = omega arith; denom = omega arith };
      },
    )
