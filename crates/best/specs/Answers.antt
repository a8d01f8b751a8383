-- What `best_fraction` says of a ratio, an f64, and an odd limit: a relation with no search in it; that it leaves one answer is
-- `best_fraction_one` of proofs/Theorems.antt. Document 02, W14. Assumes nothing.
use Rattle.std.specs.Prelude.{◌≡◌, true, false, ℕ, ◌^◌, pos, Float}
use Rattle.std.specs.Float.{binary64}
use Rattle.std.specs.Float.Ieee.{div, of_int}
use Rattle.base.specs.Numbers.{unusable, no_fraction}
use Rattle.base.specs.Said.{Said, gives, refuses}
use Rattle.floats.specs.Ranges.{in_search}
use Rattle.floats.specs.Units.{units_of}
use Rattle.best.specs.Best.{Best}
use Rattle.best.specs.declared.BestFraction.{BestFraction}

-- the ratio over the fraction, each as an f64: how far the one is from the other, as `nearest_fraction` has it
abbrev pub deviation_of : Float → ℕ → ℕ → Float
deviation_of x numer denom = div binary64 x (div binary64 (of_int binary64 (pos numer)) (of_int binary64 (pos denom)))

-- the best fraction of "the given ratio's f64", which is a whole number of 2 ^ -1074, "octaves not taken off"; and the deviation from it
pub record BestOf (x : Float) (limit : ℕ) (f : BestFraction) : Type 0 where
  pub best : Best (units_of x) (2 ^ 1074) limit f.numer f.denom
  pub deviation : f.deviation.0 ≡ deviation_of x f.numer f.denom

-- "10 as in the old call, then 29, no fraction, exactly for limit 0"
pub data BestSaid (x : Float) (limit : ℕ) : Said BestFraction → Type 0 where
  outside : in_search x ≡ false → BestSaid x limit (refuses unusable 0)
  none : in_search x ≡ true → limit ≡ 0 → BestSaid x limit (refuses no_fraction 0)
  found : in_search x ≡ true → (f : BestFraction) → BestOf x limit f → BestSaid x limit (gives f)
