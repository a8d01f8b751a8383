-- The contracts of the calls of this crate that are of their own kind; the others have those of telbijan_answers/specs/Calls.antt.
-- Assumes nothing.
use Rattle.std.specs.Prelude.{◌≡◌, ℕ, ℤ, Float}
use Rattle.base.specs.Said.{Said}
use Rattle.math.specs.OddPart.{odd_part}
use Rattle.fraction.specs.NearestFraction.{nearest_fraction}
use Rattle.best.specs.Answers.{BestSaid}
use Rattle.best.specs.declared.BestFraction.{BestFraction}
use Rattle.telbijan_answers.specs.Interface.{result, kept, field_of}

-- the call answers a number, and refuses none
abbrev pub OddFactors : ℕ → ℕ → Type 0
OddFactors number r = r ≡ odd_part number

-- of a ratio and an odd limit: four numbers are stored, and a refusal leaves all four
abbrev pub RatioNearestFraction : Float → ℕ → ℕ → ℕ → Float → ℤ → ℕ → ℕ → ℕ → Float → ℤ → Type 0
RatioNearestFraction value limit oldNumer oldDenom oldDeviation oldOctaves r numer denom deviation octaves =
    (r ≡ result (nearest_fraction value limit))
    × (numer ≡ kept (field_of (λ f. f.numer) (nearest_fraction value limit)) oldNumer)
    × (denom ≡ kept (field_of (λ f. f.denom) (nearest_fraction value limit)) oldDenom)
    × (deviation ≡ kept (field_of (λ f. f.deviation.0) (nearest_fraction value limit)) oldDeviation)
    × (octaves ≡ kept (field_of (λ f. f.num_octaves) (nearest_fraction value limit)) oldOctaves)

-- of a ratio and an odd limit: what is said of them, three numbers of which are stored, and a refusal leaves all three
abbrev pub RatioBestFraction : Float → ℕ → ℕ → ℕ → Float → ℕ → ℕ → ℕ → Float → Type 0
RatioBestFraction value limit oldNumer oldDenom oldDeviation r numer denom deviation =
    (said : Said BestFraction)
    × BestSaid value limit said
    × (r ≡ result said)
    × (numer ≡ kept (field_of (λ f. f.numer) said) oldNumer)
    × (denom ≡ kept (field_of (λ f. f.denom) said) oldDenom)
    × (deviation ≡ kept (field_of (λ f. f.deviation.0) said) oldDeviation)
