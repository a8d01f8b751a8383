-- What the fractions of a segment come to, by the tests that the code makes. Assumes nothing.
use Rattle.std.proofs.Common.{◌≡◌, ℕ, ◌-◌, ◌≤◌, true, false, arith}
use lib.Ieee.{Float, binary64, div, lt, to_unsigned}
use Rattle.floats.specs.Floats.{floor}
use Rattle.harmonics.specs.Segment.{ceil, harmonic_of}

module _ (h : Float) {low high : Float} (l : low ≡ floor h) (u : high ≡ ceil h) where
  pub harmonic_low : lt (div binary64 h low) (div binary64 high h) ≡ true → {r : ℕ} → r ≡ to_unsigned 32 low → r ≡ harmonic_of h
  unfolding harmonic_of
  harmonic_low t {r} e = rw (← l, ← u, t) e

  pub harmonic_high : lt (div binary64 h low) (div binary64 high h) ≡ false → {r : ℕ} → r ≡ to_unsigned 32 high → r ≡ harmonic_of h
  unfolding harmonic_of
  harmonic_high t {r} e = rw (← l, ← u, t) e

-- a denominator that would fall below 0 is 0
pub none_left : (end step : ℕ) → end ≤ step → 0 ≡ end - step
none_left end step h = omega arith
