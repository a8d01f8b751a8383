-- What the call says is a value or one of document 01's numbers. Assumes nothing.
use Rattle.std.specs.Prelude.{Some, None, Option}
use Rattle.std.proofs.Common.{Float, ℕ, ltb, arith}
use lib.Ieee.{binary64, mul, div}
use Rattle.base.specs.Said.{Numbered}
use Rattle.base.proofs.Said.{numbered_pick, numbered_then}
use Rattle.floats.specs.Floats.{float}
use Rattle.pitch.proofs.Numbers.{given_numbered, as_octaves_numbered, from_octaves_numbered}
use Rattle.sorted.specs.Lent.{ListTable}
use Rattle.scl.specs.Table.{ItemTable}
use Rattle.generate.specs.Generated.{counted_of}
use Rattle.generate.proofs.Numbers.{made_numbered, counted_numbered, items_numbered}
use Rattle.harmonics.specs.Segment.{interval_of, fraction_at, steps_of, segment_count}
use Rattle.harmonics.specs.Harmonics.{as_item, item_at, made_harmonics}
use Rattle.harmonics.specs.declared.segment.SegmentType.{SegmentType}

fraction_numbered : (type : SegmentType) (start size : ℕ) (steps : (Option Float)) (j : ℕ) → Numbered (fraction_at type start size steps j)
fraction_numbered type start size None j = Numbered.value _
fraction_numbered type start size (Some step) j = numbered_then (numbered_then (as_octaves_numbered step) (λ octaves. from_octaves_numbered (mul binary64 octaves (float j)))) (λ ratio. Numbered.value _)

steps_numbered : (start size : ℕ) (divisions : (Option ℕ)) → Numbered (steps_of start size divisions)
steps_numbered start size None = Numbered.value None
steps_numbered start size (Some number) =
    numbered_then
    (numbered_then (given_numbered (interval_of start size) (Numbered.value (interval_of start size))) (λ ratio. numbered_then (as_octaves_numbered ratio) (λ octaves. from_octaves_numbered (div binary64 octaves (float number)))))
    (λ step. Numbered.value (Some step))

pub create_harmonics_scale_numbered : (t : ItemTable) (l : ListTable) (type : SegmentType) (start size : ℕ) (divisions : (Option ℕ)) → Numbered (counted_of (made_harmonics t l type start size divisions))
unfolding made_harmonics
create_harmonics_scale_numbered t l type start size divisions =
    counted_numbered
    (numbered_pick (ltb 0 start)
    (made_numbered t l (segment_count size divisions)
    (numbered_then (steps_numbered start size divisions) (λ steps. items_numbered (item_at type start size steps) (λ j. numbered_then (fraction_numbered type start size steps j) (λ f. Numbered.value (as_item f))) (segment_count size divisions) 1)))
    (Numbered.number (omega arith) (omega arith)))
