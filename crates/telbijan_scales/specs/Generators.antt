-- What the interface for C says of a segment by numbers. Assumes nothing.
use Rattle.std.specs.Prelude.{Bool, true, false, ℕ, Some, None, Option}
use Rattle.harmonics.specs.declared.segment.SegmentType.{SegmentType}
use Rattle.harmonics.specs.declared.segment.SegmentType.TheVariants.{Otonal, Utonal}

abbrev pub segment_with : Bool → SegmentType
segment_with true = Otonal
segment_with false = Utonal

-- divisions count where they were given
abbrev pub divisions_with : Bool → ℕ → (Option ℕ)
divisions_with true n = Some n
divisions_with false n = None
