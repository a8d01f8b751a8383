-- What E, L and the steps on ratios say is a value or one of document 01's numbers. Assumes nothing.
use mathlib.Core.Bool.{◌&&◌}
use native.Mathlib.Omega.{arith}
use lib.Ieee.{Float, binary64, div}
use Rattle.base.specs.Said.{Said, Numbered}
use Rattle.base.proofs.Said.{numbered_pick, numbered_then}
use Rattle.floats.specs.Floats.{one_f}
use Rattle.floats.specs.Ranges.{in_reach}
use Rattle.explog.specs.Rules.{E, L, in_powers}
use Rattle.pitch.specs.Given.{given, both_given, computed}
use Rattle.pitch.specs.Ratios.{from_octaves, as_octaves, as_semitones, as_cents, inverse}

pub given_numbered : {A : Type 0} (x : Float) {s : Said A} → Numbered s → Numbered (given x s)
given_numbered x n = numbered_pick (in_reach x) n (Numbered.number (omega arith) (omega arith))

pub both_numbered : {A : Type 0} (x y : Float) {s : Said A} → Numbered s → Numbered (both_given x y s)
both_numbered x y n = numbered_pick (in_reach x && in_reach y) n (Numbered.number (omega arith) (omega arith))

pub computed_numbered : (x : Float) → Numbered (computed x)
computed_numbered x = numbered_pick (in_reach x) (Numbered.value x) (Numbered.number (omega arith) (omega arith))

pub exp_numbered : (x : Float) → Numbered (E x)
unfolding E
exp_numbered x = numbered_pick (in_powers x) (Numbered.value _) (Numbered.number (omega arith) (omega arith))

pub log_numbered : (x : Float) → Numbered (L x)
unfolding L
log_numbered x = numbered_pick (in_reach x) (Numbered.value _) (Numbered.number (omega arith) (omega arith))

pub from_octaves_numbered : (x : Float) → Numbered (from_octaves x)
from_octaves_numbered x = numbered_then (exp_numbered x) computed_numbered

pub as_octaves_numbered : (x : Float) → Numbered (as_octaves x)
as_octaves_numbered x = given_numbered x (log_numbered x)

pub as_semitones_numbered : (x : Float) → Numbered (as_semitones x)
as_semitones_numbered x = numbered_then (as_octaves_numbered x) (λ o. Numbered.value _)

pub as_cents_numbered : (x : Float) → Numbered (as_cents x)
as_cents_numbered x = numbered_then (as_semitones_numbered x) (λ o. Numbered.value _)

pub inverse_numbered : (x : Float) → Numbered (inverse x)
inverse_numbered x = given_numbered x (computed_numbered (div binary64 one_f x))
