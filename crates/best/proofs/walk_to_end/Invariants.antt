-- The walk. The invariant: what was passed, and that the fraction at hand is ready; the measure is how far its numerator and denominator
-- together are from 131,072. Assumes nothing.
use Prim.Native.Nat.{◌+◌, ◌-◌, ◌*◌, ◌^◌}
use Rattle.best.specs.Walked.{PassedBy, Ready}
use Rattle.best.proofs.walk_to_end.Given as goal

abbrev pub invariant-loop-here : goal.invariant-loop-here
invariant-loop-here l = PassedBy (l.m * 2 ^ l.k) (2 ^ 1074) l.limit l.w × Ready l.limit l.w

abbrev pub decreases-loop-here : goal.decreases-loop-here
decreases-loop-here l = 131072 - (l.w.here.numer + l.w.here.denom)
