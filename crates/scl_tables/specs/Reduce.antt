-- Reduction of a ratio by the period: "Reduction [..] as in mod.rs" (document 01, "Scales and searches"): none where the period is
-- negligible; else the octaves of both, `rem_euclid` and back to a ratio, `div_euclid` as the wraparound count. Assumes nothing.
use Rattle.std.specs.Prelude.{◌≡◌, Bool, true, ◌&&◌, ℤ, pos, Float}
use Rattle.std.specs.Float.Ieee.{le, lt}
use Rattle.base.specs.Said.{Said, gives, pick, and_then}
use Rattle.floats.specs.Floats.{least_i32, past_i32, count}
use Rattle.remainder.specs.Euclid.{rem_euclid, div_euclid}
use Rattle.floats.specs.Ranges.{in_reach, negligible}
use Rattle.explog.specs.Rules.{L}
use Rattle.pitch.specs.Ratios.{from_octaves}
use Rattle.scl_tables.specs.declared.reduction.Period.{Period}
use Rattle.scl_tables.specs.declared.reduction.Reduced.{Reduced}

abbrev pub reduced_to : Float → ℤ → Reduced
reduced_to ratio wraps = record { ratio = ratio; wraps = wraps }

-- a quotient whose whole part is an i32
abbrev pub is_count : Float → Bool
is_count q = le least_i32 q && lt q past_i32

-- a ratio of so many octaves, by a period of so many: 18 where the ratio leaves 2^-900..2^900 or the count leaves i32
abbrev pub reduced_octaves : Float → Float → Said Reduced
reduced_octaves size octaves =
    and_then (from_octaves (rem_euclid octaves size)) (λ ratio. and_then (count (div_euclid octaves size)) (λ wraps. gives (reduced_to ratio wraps)))

-- a ratio reduced by a period
abbrev pub reduced_by : Float → Float → Said Reduced
reduced_by period ratio =
    pick (negligible period)
    (gives (reduced_to ratio (pos 0)))
    (and_then (L period) (λ size. and_then (L ratio) (reduced_octaves size)))

-- a period in the range, with its octaves
pub record IsPeriod (p : Period) : Type 0 where
  pub reach : in_reach p.ratio ≡ true
  pub octaves : L p.ratio ≡ gives p.octaves
