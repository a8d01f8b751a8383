-- The fractions of a segment of the harmonic series, as the Rust's `create_harmonics_scale` makes them, its f64 steps in its order
-- with document 01's E and L. Assumes nothing.
use Rattle.std.specs.Prelude.{ℕ, ◌+◌, ◌-◌, Float, Some, None, Option}
use Rattle.std.specs.Float.{binary64}
use Rattle.std.specs.Float.Ieee.{add, mul, div, neg, lt, to_unsigned}
use Rattle.base.specs.Said.{Said, gives, pick, and_then}
use Rattle.floats.specs.Floats.{float, floor}
use Rattle.pitch.specs.Ratios.{from_float, repeated, divided_into}
use Rattle.harmonics.specs.declared.segment.Fraction.{Fraction}
use Rattle.harmonics.specs.declared.segment.SegmentType.{SegmentType}
use Rattle.harmonics.specs.declared.segment.SegmentType.TheVariants.{Otonal, Utonal}

-- f64::ceil: the floor of the number turned over, turned back
abbrev pub ceil : Float → Float
ceil x = neg (floor (neg x))

-- the whole number below h where it is nearer as a ratio, else the one above it
abbrev pub candidate_of : Float → Float
candidate_of h = pick (lt (div binary64 h (floor h)) (div binary64 (ceil h) h)) (floor h) (ceil h)

-- `as u32`
unfoldable pub harmonic_of : Float → ℕ
harmonic_of h = to_unsigned 32 (candidate_of h)

abbrev pub item_fraction : ℕ → ℕ → Fraction
item_fraction numer denom = record { numer = numer; denom = denom }

-- without divisions: the harmonics after the first one over it, the last one over those before it
abbrev pub whole_at : SegmentType → ℕ → ℕ → ℕ → Fraction
whole_at Otonal start size j = item_fraction (start + j) start
whole_at Utonal start size j = item_fraction (start + size) (start + size - j)

-- the same of the harmonic near a ratio
abbrev pub near_at : SegmentType → ℕ → ℕ → Float → Fraction
near_at Otonal start size ratio = item_fraction (harmonic_of (mul binary64 ratio (float start))) start
near_at Utonal start size ratio = item_fraction (start + size) (harmonic_of (div binary64 (float (start + size)) ratio))

-- the j-th fraction: `step_size.repeated(j)` where the segment is divided
abbrev pub fraction_at : SegmentType → ℕ → ℕ → (Option Float) → ℕ → Said Fraction
fraction_at type start size None j = gives (whole_at type start size j)
fraction_at type start size (Some step) j = and_then (repeated step (float j)) (λ ratio. gives (near_at type start size ratio))

-- `equivalence_interval`
abbrev pub interval_of : ℕ → ℕ → Float
interval_of start size = div binary64 (add binary64 (float start) (float size)) (float start)

-- `Ratio::from_float(equivalence_interval).divided_into_equal_steps(neji_divisions)`
abbrev pub steps_of : ℕ → ℕ → (Option ℕ) → Said (Option Float)
steps_of start size None = gives None
steps_of start size (Some number) =
    and_then (and_then (from_float (interval_of start size)) (λ ratio. divided_into ratio (float number))) (λ step. gives (Some step))

-- how many items there are
abbrev pub segment_count : ℕ → (Option ℕ) → ℕ
segment_count size None = size
segment_count size (Some number) = number
