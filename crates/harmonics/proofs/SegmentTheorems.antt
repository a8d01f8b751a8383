-- Samples of document 01's generators as the Rust has them, and that each call on a segment has one result. Assumes nothing.
use Rattle.std.specs.Prelude.{Option}
use Rattle.std.proofs.Common.{Float, ◌≡◌, ℕ, refl}
use Rattle.base.specs.Said.{One, outcome}
use Rattle.base.proofs.Said.{one_result, one_said}
use Rattle.harmonics.specs.Segment.{item_fraction, whole_at, fraction_at, steps_of, segment_count}
use Rattle.harmonics.specs.declared.segment.SegmentType.{SegmentType}
use Rattle.harmonics.specs.declared.segment.SegmentType.TheVariants.{Otonal, Utonal}

-- 9:10:11:12:13:14:15:16 and 16/(16:15:14:13:12:11:10:9), as the Rust's example has them: the first and the last item
pub nine_to_sixteen : (whole_at Otonal 9 7 1 ≡ item_fraction 10 9) × (whole_at Otonal 9 7 7 ≡ item_fraction 16 9) × (whole_at Utonal 9 7 1 ≡ item_fraction 16 15) × (whole_at Utonal 9 7 7 ≡ item_fraction 16 9)
nine_to_sixteen = (refl, refl, refl, refl)

pub fraction_at_one : (type : SegmentType) (start size : ℕ) (steps : (Option Float)) (j : ℕ) → One outcome (fraction_at type start size steps j)
fraction_at_one type start size steps j = one_said (fraction_at type start size steps j)

pub steps_of_one : (start size : ℕ) (divisions : (Option ℕ)) → One outcome (steps_of start size divisions)
steps_of_one start size divisions = one_said (steps_of start size divisions)

pub count_of_one : (size : ℕ) (divisions : (Option ℕ)) → One (λ r. r) (segment_count size divisions)
count_of_one size divisions = one_result (segment_count size divisions)
