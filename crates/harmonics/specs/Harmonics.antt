-- A scale from a segment of the harmonic series: the Rust's `create_harmonics_scale`. "Generators know their item count and test 13, 10,
-- 12 in that order, then give 18 where it arises (zero divisions do); segment start 0 gives 10" (document 01, "Scales and searches").
-- The count is a u16, so 13 never arises. Assumes nothing.
use Rattle.std.specs.Prelude.{Float, ℕ, List, nat_lt, Some, Option}
use Rattle.base.specs.Numbers.{unusable}
use Rattle.base.specs.Said.{Said, gives, refuses, pick, and_then}
use Rattle.sorted.specs.Lent.{ListTable}
use Rattle.scl.specs.Table.{ItemTable}
use Rattle.scl.specs.declared.Item.{Item}
use Rattle.scl.specs.declared.Item.TheVariants as item
use Rattle.generate.specs.Generated.{items_from, made_of}
use Rattle.harmonics.specs.Segment.{fraction_at, steps_of, segment_count}
use Rattle.harmonics.specs.declared.segment.Fraction.{Fraction}
use Rattle.harmonics.specs.declared.segment.SegmentType.{SegmentType}

-- what `push_fraction` pushes
abbrev pub as_item : Fraction → Item
as_item f = item.Fraction f.numer (Some f.denom)

-- the j-th item
abbrev pub item_at : SegmentType → ℕ → ℕ → (Option Float) → ℕ → Said Item
item_at type start size steps j = and_then (fraction_at type start size steps j) (λ f. gives (as_item f))

-- THE ITEMS: as many as the segment is long, or as it has divisions
abbrev pub harmonics_of : SegmentType → ℕ → ℕ → (Option ℕ) → Said (List Item)
harmonics_of type start size divisions = and_then (steps_of start size divisions) (λ steps. items_from (item_at type start size steps) 1 (segment_count size divisions))

-- the items of an accepted call: 10, then 12, then 18
unfoldable pub made_harmonics : ItemTable → ListTable → SegmentType → ℕ → ℕ → (Option ℕ) → Said (List Item)
made_harmonics t l type start size divisions = pick (nat_lt 0 start) (made_of t l (segment_count size divisions) (harmonics_of type start size divisions)) (refuses unusable 0)
