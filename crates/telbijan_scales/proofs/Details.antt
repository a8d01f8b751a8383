-- The calls of this crate that read no text refuse with detail 0: a line for each. Assumes nothing.
use Rattle.std.specs.Prelude.{None, Some, Option}
use mathlib.Core.Bool.{Bool}
use mathlib.Core.List.{List, [], ◌∷◌}
use Prim.Native.Nat.{ℕ, zero, suc}
use lib.ListN.{length}
use lib.Ieee.{Float}
use Rattle.base.specs.Said.{Said}
use Rattle.sorted.specs.Lent.{ListTable}
use Rattle.scl.specs.Items.{given_ratio}
use Rattle.scl.specs.Table.{ItemTable, item_of}
use Rattle.scl.specs.declared.Item.{Item}
use Rattle.scl_tables.specs.Build.{entries_from, sorted_of, scale_of, sized_of}
use Rattle.scl_build.specs.Builder.{builder_of, pushed, pushed_ratio, built, counted}
use Rattle.scl_build.specs.declared.SclBuilder.{SclBuilder}
use Rattle.writing.specs.Fitted.{fitted, text_length}
use Rattle.scl_write.specs.Export.{export_of}
use Rattle.generate.specs.Generated.{made_of, counted_of, items_from}
use Rattle.harmonics.specs.Segment.{steps_of}
use Rattle.harmonics.specs.declared.segment.SegmentType.{SegmentType}
use Rattle.harmonics.specs.Harmonics.{item_at, made_harmonics}
use Rattle.rank2.specs.Notes.{ratios_from}
use Rattle.rank2.specs.Rank2.{ascending_ratios, pushed_as, made_rank2}
use Rattle.telbijan_scales.specs.Generators.{segment_with, divisions_with}
use Rattle.telbijan_answers.specs.Details.{Undetailed}
use Rattle.telbijan_answers.proofs.Details.{steps, exp_undetailed, log_undetailed, as_cents_undetailed, as_ratio_undetailed}

ruleset floats = (steps, exp_undetailed, log_undetailed, as_cents_undetailed, as_ratio_undetailed)

-- ---- the sorted list of items
entries_undetailed : (period : Float) (k : ℕ) (is : List Item) → Undetailed (entries_from period k is)
entries_undetailed period k [] = search steps
entries_undetailed period k (i ∷ is) = let rest = entries_undetailed period (suc k) is in search floats depth 12

sorted_undetailed : (is : List Item) → Undetailed (sorted_of is)
unfolding sorted_of
sorted_undetailed is = search (floats, entries_undetailed) depth 12

sized_undetailed : (is : List Item) → Undetailed (sized_of is)
unfolding scale_of
sized_undetailed is = search (floats, sorted_undetailed) depth 12

-- ---- scales that are built and written
pub item_as_ratio_undetailed : (kind : ℕ) (cents : Float) (numer denom : ℕ) → Undetailed (given_ratio (item_of kind cents numer denom))
item_as_ratio_undetailed kind cents numer denom = search (steps, as_ratio_undetailed)

pub new_scl_undetailed : (items : ItemTable) (list : ListTable) → Undetailed (builder_of items list)
new_scl_undetailed items list = search steps

-- of cents, an integer or a fraction
pub push_item_undetailed : (b : SclBuilder) (items : ItemTable) (item : Item) → Undetailed (pushed b items item)
unfolding pushed
push_item_undetailed b items item = search steps

pub push_ratio_undetailed : (b : SclBuilder) (items : ItemTable) (value : Float) → Undetailed (pushed_ratio b items value)
unfolding pushed_ratio
push_ratio_undetailed b items value = search (steps, as_cents_undetailed, push_item_undetailed)

pub build_scl_undetailed : (b : SclBuilder) (items : ItemTable) (list : ListTable) → Undetailed (counted b (built b items list))
unfolding built
build_scl_undetailed b items list = search (steps, sized_undetailed)

pub export_scl_undetailed : (description : List ℕ) (items : ItemTable) (count : ℕ) (out : List ℕ) → Undetailed (text_length (export_of (record { count = count }) items description (length out)))
unfolding export_of fitted
export_scl_undetailed description items count out = search steps

-- ---- scales that are computed
made_undetailed : (t : ItemTable) (l : ListTable) (n : ℕ) {items : Said (List Item)} → Undetailed items → Undetailed (made_of t l n items)
unfolding made_of built
made_undetailed t l n m = search (steps, sized_undetailed) depth 12

items_undetailed : (f : ℕ → Said Item) → ((j : ℕ) → Undetailed (f j)) → (n k : ℕ) → Undetailed (items_from f k n)
unfolding items_from
items_undetailed f h zero k = search steps
items_undetailed f h (suc n) k = let rest = items_undetailed f h n (suc k) in search (steps, h, rest)

item_undetailed : (type : SegmentType) (start size : ℕ) (s : Option Float) (j : ℕ) → Undetailed (item_at type start size s j)
item_undetailed type start size None j = search steps
item_undetailed type start size (Some step) j = search floats depth 12

steps_undetailed : (start size : ℕ) (d : Option ℕ) → Undetailed (steps_of start size d)
steps_undetailed start size None = search steps
steps_undetailed start size (Some number) = search floats depth 12

harmonics_undetailed : (t : ItemTable) (l : ListTable) (type : SegmentType) (start size : ℕ) (d : Option ℕ) → Undetailed (counted_of (made_harmonics t l type start size d))
unfolding made_harmonics
harmonics_undetailed t l type start size d = search (steps, made_undetailed, steps_undetailed, items_undetailed, item_undetailed) depth 12

pub create_harmonics_scale_undetailed : (otonal : Bool) (start size : ℕ) (is-divided : Bool) (number : ℕ) (t : ItemTable) (l : ListTable) → Undetailed (counted_of (made_harmonics t l (segment_with otonal) start size (divisions_with is-divided number)))
create_harmonics_scale_undetailed otonal start size is-divided number t l = harmonics_undetailed t l (segment_with otonal) start size (divisions_with is-divided number)

ratios_undetailed : (f : ℕ → Said Float) → ((i : ℕ) → Undetailed (f i)) → (n k : ℕ) → Undetailed (ratios_from f k n)
unfolding ratios_from
ratios_undetailed f h zero k = search steps
ratios_undetailed f h (suc n) k = let rest = ratios_undetailed f h n (suc k) in search (steps, h, rest)

pushed_undetailed : (rs : List Float) → Undetailed (pushed_as rs)
unfolding pushed_as
pushed_undetailed [] = search steps
pushed_undetailed (r ∷ rs) = let rest = pushed_undetailed rs in search (steps, as_cents_undetailed, rest)

pub create_rank2_temperament_scale_undetailed : (generator : Float) (positive negative : ℕ) (period : Float) (t : ItemTable) (l : ListTable) → Undetailed (counted_of (made_rank2 t l generator positive negative period))
unfolding made_rank2 ascending_ratios
create_rank2_temperament_scale_undetailed generator positive negative period t l = search (floats, made_undetailed, ratios_undetailed, pushed_undetailed) depth 14
