-- For each input, refused ones too, a function of the interface has one possible result, and each value behind a pointer and each
-- lent part of memory one possible state after it: document 01, "What the contracts settle". A line for each. Assumes nothing.
use Rattle.std.specs.Prelude.{Result, Some, None}
use Rattle.scl_build.specs.declared.SclBuilder.{SclBuilder}
use Rattle.base.specs.declared.Refusal.{Refusal}
use mathlib.Core.List.{List}
use Prim.Native.Nat.{ℕ}
use lib.Ieee.{Float}
use lib.ListN.{length}
use mathlib.Core.Bool.{Bool}
use Rattle.base.specs.Said.{One, outcome}
use Rattle.base.proofs.Said.{one_result}
use Rattle.base.specs.Tables.{after}
use Rattle.scl.specs.Items.{given_ratio}
use Rattle.scl.specs.Table.{ItemTable, item_of}
use Rattle.scl.specs.declared.Item.TheVariants.{Cents, Fraction}
use Rattle.sorted.specs.Lent.{ListTable}
use Rattle.scl_tables.specs.Build.{after_list}
use Rattle.scl_tables.specs.Room.{room_of}
use Rattle.scl_build.specs.Builder.{state, builder_of, after_new, pushed, after_push, pushed_ratio, after_ratio, built, counted}
use Rattle.scl_read.specs.Reader.{read_of, after_items, after_sorted}
use Rattle.scl_read.specs.declared.SclRead.{SclRead}
use Rattle.writing.specs.Fitted.{text_length}
use Rattle.scl_write.specs.Export.{export_of}
use Rattle.telbijan_answers.specs.Interface.{result, kept, field_of}
use Rattle.generate.specs.Generated.{counted_of, items_left, list_left}
use Rattle.harmonics.specs.Harmonics.{made_harmonics}
use Rattle.rank2.specs.Rank2.{made_rank2}
use Rattle.telbijan_scales.specs.Generators.{segment_with, divisions_with}

-- ---- scales that are built, read and written
pub item_as_ratio_one : (kind : ℕ) (cents : Float) (numer denom : ℕ) (ratio : Float) → One (λ r. r) (result (given_ratio (item_of kind cents numer denom))) × One (λ r. r) (kept (given_ratio (item_of kind cents numer denom)) ratio)
item_as_ratio_one kind cents numer denom ratio = (one_result (result (given_ratio (item_of kind cents numer denom))), one_result (kept (given_ratio (item_of kind cents numer denom)) ratio))

pub read_scl_one : (text : List ℕ) (items : ItemTable) (list : ListTable) (old : SclRead) →
    One (λ r. r) (result (read_of (room_of items list) text)) × One (λ r. r) (after_items text items list)
    × One (λ r. r) (after_sorted text items list) × One (λ r. r) (kept (read_of (room_of items list) text) old)
read_scl_one text items list old = (
  one_result (result (read_of (room_of items list) text)),
  one_result (after_items text items list),
  one_result (after_sorted text items list),
  one_result (kept (read_of (room_of items list) text) old),
)

pub new_scl_one : (items : ItemTable) (list : ListTable) (room : ℕ) → One (λ r. r) (result (builder_of items list)) × (One (λ r. r) (after_new items list) × One (λ r. r) (kept (field_of (λ b. b.room) (builder_of items list)) room))
new_scl_one items list room = (one_result (result (builder_of items list)), (one_result (after_new items list), one_result (kept (field_of (λ b. b.room) (builder_of items list)) room)))

pub store_count_one : (answer : (Result SclBuilder Refusal)) (after : ℕ) → One (λ r. r) (result (outcome answer)) × One (λ r. r) (kept (field_of (λ b. b.count) (outcome answer)) after)
store_count_one answer after = (one_result (result (outcome answer)), one_result (kept (field_of (λ b. b.count) (outcome answer)) after))

pub push_cents_one : (items : ItemTable) (room count : ℕ) (value : Float) (after : ℕ) → One (λ r. r) (result (pushed (state room count) items (Cents value))) × (One (λ r. r) (after_push (state room count) items (Cents value)) × One (λ r. r) (kept (field_of (λ b. b.count) (pushed (state room count) items (Cents value))) after))
push_cents_one items room count value after = (one_result (result (pushed (state room count) items (Cents value))), (one_result (after_push (state room count) items (Cents value)), one_result (kept (field_of (λ b. b.count) (pushed (state room count) items (Cents value))) after)))

pub push_int_one : (items : ItemTable) (room count : ℕ) (value : ℕ) (after : ℕ) → One (λ r. r) (result (pushed (state room count) items (Fraction value None))) × (One (λ r. r) (after_push (state room count) items (Fraction value None)) × One (λ r. r) (kept (field_of (λ b. b.count) (pushed (state room count) items (Fraction value None))) after))
push_int_one items room count value after = (one_result (result (pushed (state room count) items (Fraction value None))), (one_result (after_push (state room count) items (Fraction value None)), one_result (kept (field_of (λ b. b.count) (pushed (state room count) items (Fraction value None))) after)))

pub push_fraction_one : (items : ItemTable) (room count : ℕ) (above below : ℕ) (after : ℕ) → One (λ r. r) (result (pushed (state room count) items (Fraction above (Some below)))) × (One (λ r. r) (after_push (state room count) items (Fraction above (Some below))) × One (λ r. r) (kept (field_of (λ b. b.count) (pushed (state room count) items (Fraction above (Some below)))) after))
push_fraction_one items room count above below after = (one_result (result (pushed (state room count) items (Fraction above (Some below)))), (one_result (after_push (state room count) items (Fraction above (Some below))), one_result (kept (field_of (λ b. b.count) (pushed (state room count) items (Fraction above (Some below)))) after)))

pub push_ratio_one : (items : ItemTable) (room count : ℕ) (value : Float) (after : ℕ) → One (λ r. r) (result (pushed_ratio (state room count) items value)) × (One (λ r. r) (after_ratio (state room count) items value) × One (λ r. r) (kept (field_of (λ b. b.count) (pushed_ratio (state room count) items value)) after))
push_ratio_one items room count value after = (one_result (result (pushed_ratio (state room count) items value)), (one_result (after_ratio (state room count) items value), one_result (kept (field_of (λ b. b.count) (pushed_ratio (state room count) items value)) after)))

pub build_scl_one : (items : ItemTable) (list : ListTable) (room count : ℕ) (size : ℕ) → One (λ r. r) (result (counted (state room count) (built (state room count) items list))) × (One (λ r. r) (after_list (built (state room count) items list) list) × One (λ r. r) (kept (counted (state room count) (built (state room count) items list)) size))
build_scl_one items list room count size = (one_result (result (counted (state room count) (built (state room count) items list))), (one_result (after_list (built (state room count) items list) list), one_result (kept (counted (state room count) (built (state room count) items list)) size)))

pub export_scl_one : (description : List ℕ) (items : ItemTable) (count : ℕ) (out : List ℕ) (written : ℕ) → One (λ r. r) (result (text_length (export_of (record { count = count }) items description (length out)))) × (One (λ r. r) (after (export_of (record { count = count }) items description (length out)) (λ t. t) out) × One (λ r. r) (kept (text_length (export_of (record { count = count }) items description (length out))) written))
export_scl_one description items count out written = (one_result (result (text_length (export_of (record { count = count }) items description (length out)))), (one_result (after (export_of (record { count = count }) items description (length out)) (λ t. t) out), one_result (kept (text_length (export_of (record { count = count }) items description (length out))) written)))

-- ---- scales that are computed
pub create_harmonics_scale_one : (otonal : Bool) (start size : ℕ) (divided : Bool) (divisions : ℕ) (t : ItemTable) (l : ListTable) (count : ℕ) →
    One (λ r. r) (result (counted_of (made_harmonics t l (segment_with otonal) start size (divisions_with divided divisions)))) × (One (λ r. r) (items_left (made_harmonics t l (segment_with otonal) start size (divisions_with divided divisions)) t l) × (One (λ r. r) (list_left (made_harmonics t l (segment_with otonal) start size (divisions_with divided divisions)) t l) × One (λ r. r) (kept (counted_of (made_harmonics t l (segment_with otonal) start size (divisions_with divided divisions))) count)))
create_harmonics_scale_one otonal start size divided divisions t l count =
    (one_result (result (counted_of (made_harmonics t l (segment_with otonal) start size (divisions_with divided divisions)))), (one_result (items_left (made_harmonics t l (segment_with otonal) start size (divisions_with divided divisions)) t l), (one_result (list_left (made_harmonics t l (segment_with otonal) start size (divisions_with divided divisions)) t l), one_result (kept (counted_of (made_harmonics t l (segment_with otonal) start size (divisions_with divided divisions))) count))))

pub create_rank2_temperament_scale_one : (generator : Float) (positive negative : ℕ) (period : Float) (t : ItemTable) (l : ListTable) (count : ℕ) →
    One (λ r. r) (result (counted_of (made_rank2 t l generator positive negative period))) × (One (λ r. r) (items_left (made_rank2 t l generator positive negative period) t l) × (One (λ r. r) (list_left (made_rank2 t l generator positive negative period) t l) × One (λ r. r) (kept (counted_of (made_rank2 t l generator positive negative period)) count)))
create_rank2_temperament_scale_one generator positive negative period t l count =
    (one_result (result (counted_of (made_rank2 t l generator positive negative period))), (one_result (items_left (made_rank2 t l generator positive negative period) t l), (one_result (list_left (made_rank2 t l generator positive negative period) t l), one_result (kept (counted_of (made_rank2 t l generator positive negative period)) count))))
