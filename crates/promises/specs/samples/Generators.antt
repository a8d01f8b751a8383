-- SAMPLES OF GENERATED SCALES: a rank-2 temperament, whose items stand in ascending order, and segments of the harmonic series, divided
-- and not. Document 01, "Scales and searches". Assumes nothing.
use Rattle.std.specs.Prelude.{◌≡◌, true, false, List, [], ◌∷◌, ℕ, pos, negsuc, Float, Some, None}
use Rattle.std.specs.Float.{fin}
use Rattle.base.specs.Said.{Said, gives, and_then}
use Rattle.harmonics.specs.Harmonics.{item_at, harmonics_of}
use Rattle.harmonics.specs.Segment.{steps_of}
use Rattle.harmonics.specs.declared.segment.SegmentType.{SegmentType}
use Rattle.harmonics.specs.declared.segment.SegmentType.TheVariants.{Otonal, Utonal}
use Rattle.rank2.specs.Rank2.{temperament_of}
use Rattle.scl.specs.declared.Item.{Item}
use Rattle.scl.specs.declared.Item.TheVariants.{Cents, Fraction}

-- 0.5 and 1.5
abbrev pub half : Float
half = fin false 1 (negsuc 0)

abbrev pub fifth : Float
fifth = fin false 3 (negsuc 0)

-- -1200.0, 203.91000173077433, 498.0449991346127 and 701.955000865387 cents
abbrev pub ascending_notes : List Item
ascending_notes =
    Cents (fin true 75 (pos 4)) ∷ Cents (fin false 7174445373529941 (negsuc 44)) ∷ Cents (fin false 1095212535408389 (negsuc 40)) ∷
    Cents (fin false 6174461485016041 (negsuc 42)) ∷ []

-- the j-th item of a divided segment
abbrev pub divided_at : SegmentType → ℕ → ℕ → ℕ → ℕ → Said Item
divided_at type start size number j = and_then (steps_of start size (Some number)) (λ steps. item_at type start size steps j)

-- fractions over one number, and under one
abbrev pub fractions_over : ℕ → List ℕ → List Item
fractions_over denom [] = []
fractions_over denom (n ∷ ns) = Fraction n (Some denom) ∷ fractions_over denom ns

abbrev pub fractions_under : ℕ → List ℕ → List Item
fractions_under numer [] = []
fractions_under numer (d ∷ ds) = Fraction numer (Some d) ∷ fractions_under numer ds

pub record GeneratorSamples : Type 0 where
  -- generator 1.5, twice up and once down, period 0.5: "sorted ascending", so the highest note and not the period comes last
  pub rank_two : temperament_of fifth 2 1 half ≡ gives ascending_notes
  -- harmonics 27 to 54 divided into 12: the first item is 29/27
  pub divided : divided_at Otonal 27 27 12 1 ≡ gives (Fraction 29 (Some 27))
  -- the nearer harmonic as a ratio: 2.4914.. is nearer to 3 by its ratio, to 2 by its difference; upwards and downwards
  pub nearer_up : divided_at Otonal 2 4 5 1 ≡ gives (Fraction 3 (Some 2))
  pub nearer_down : divided_at Utonal 2 4 5 4 ≡ gives (Fraction 6 (Some 3))
  -- harmonics 4 to 8, not divided, upwards and downwards
  pub whole_up : harmonics_of Otonal 4 4 None ≡ gives (fractions_over 4 (5 ∷ 6 ∷ 7 ∷ 8 ∷ []))
  pub whole_down : harmonics_of Utonal 4 4 None ≡ gives (fractions_under 8 (7 ∷ 6 ∷ 5 ∷ 4 ∷ []))
