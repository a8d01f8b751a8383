-- Why `create_harmonics_scale` refuses: "Generators know their item count and test 13, 10, 12 in that order, then give 18 where it
-- arises (zero divisions do); segment start 0 gives 10" (document 01, "Scales and searches"). That it refuses for no other cause is
-- proofs/equal_steps/Theorems.antt. Assumes nothing.
use Rattle.std.specs.Prelude.{◌≡◌, ◌⊎◌, true, List, ◌∷◌, ℕ, ◌≤◌, ◌<◌, length, Some, Option, Float}
use Rattle.base.specs.Said.{gives, and_then}
use Rattle.floats.specs.Floats.{one_f}
use Rattle.sorted.specs.Lent.{ListTable}
use Rattle.scl.specs.Items.{ratio_of, AllHeld}
use Rattle.scl.specs.Table.{ItemTable, implicit, are_usable}
use Rattle.scl.specs.declared.Item.{Item}
use Rattle.scl_tables.specs.Build.{last_of}
use Rattle.scl_tables.specs.Room.{room_of}
use Rattle.harmonics.specs.Segment.{steps_of, segment_count}
use Rattle.harmonics.specs.declared.segment.SegmentType.{SegmentType}
use Rattle.harmonics.specs.Harmonics.{item_at, harmonics_of}

-- the tests before 18 pass; 13 never arises, the count being a u16
pub record Tested (t : ItemTable) (l : ListTable) (start size : ℕ) (divisions : (Option ℕ)) : Type 0 where
  pub some : 0 < start
  pub room : segment_count size divisions < room_of t l

-- "zero divisions do"
abbrev pub NoDivisions : (Option ℕ) → Type 0
NoDivisions divisions = divisions ≡ Some 0

-- two or more items, and the period of the scale, the ratio of its last item, is 1.0
abbrev pub PeriodOne : SegmentType → ℕ → ℕ → (Option ℕ) → Type 0
PeriodOne type start size divisions =
    (2 ≤ segment_count size divisions) × (and_then (harmonics_of type start size divisions) (λ is. ratio_of (last_of (implicit ∷ is))) ≡ gives one_f)

-- the causes of 18
abbrev pub Beyond : SegmentType → ℕ → ℕ → (Option ℕ) → Type 0
Beyond type start size divisions = NoDivisions divisions ⊎ PeriodOne type start size divisions

-- the items of a segment: as many as it is asked for, each usable
pub record SegmentItems (type : SegmentType) (start size : ℕ) (divisions : (Option ℕ)) : Type 0 where
  pub items : List Item
  pub are : harmonics_of type start size divisions ≡ gives items
  pub size_is : length items ≡ segment_count size divisions
  pub usable : are_usable items ≡ true
  pub held : AllHeld items
  pub last : (steps : (Option Float)) → steps_of start size divisions ≡ gives steps → 0 < segment_count size divisions → (i : Item) → item_at type start size steps (segment_count size divisions) ≡ gives i → last_of (implicit ∷ items) ≡ i
