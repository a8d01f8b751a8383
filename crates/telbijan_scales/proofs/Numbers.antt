-- What the functions of this crate say is a value or one of document 01's numbers, so a result is 0 exactly where a value is stored
-- (`zero_accepted` of telbijan_answers). A line for each. Assumes nothing.
use Rattle.std.specs.Prelude.{Some, None}
use mathlib.Core.List.{List}
use Prim.Native.Nat.{ℕ}
use lib.ListN.{length}
use lib.Ieee.{Float}
use mathlib.Core.Bool.{Bool}
use Rattle.base.specs.Said.{Numbered}
use Rattle.base.proofs.Said.{numbered_then}
use Rattle.sorted.specs.Lent.{ListTable}
use Rattle.scl.specs.Items.{given_ratio}
use Rattle.scl.specs.Table.{ItemTable, item_of}
use Rattle.scl.specs.declared.Item.TheVariants.{Cents, Fraction}
use Rattle.scl.proofs.Numbers.{given_ratio_numbered}
use Rattle.scl_tables.specs.Room.{room_of}
use Rattle.scl_build.specs.Builder.{state, builder_of, pushed, pushed_ratio, built, counted}
use Rattle.scl_build.proofs.Numbers as building
use Rattle.scl_read.specs.Reader.{read_of}
use Rattle.scl_read.proofs.Numbers as reading
use Rattle.writing.specs.Fitted.{text_length}
use Rattle.scl_write.specs.Export.{export_of}
use Rattle.scl_write.proofs.Theorems.{export_numbered}
use Rattle.generate.specs.Generated.{counted_of}
use Rattle.harmonics.specs.Harmonics.{made_harmonics}
use Rattle.harmonics.proofs.Numbers as harmonics
use Rattle.rank2.specs.Rank2.{made_rank2}
use Rattle.rank2.proofs.Numbers as rank2
use Rattle.telbijan_scales.specs.Generators.{segment_with, divisions_with}

-- ---- scales that are built, read and written
pub item_as_ratio_numbered : (kind : ℕ) (cents : Float) (numer denom : ℕ) → Numbered (given_ratio (item_of kind cents numer denom))
item_as_ratio_numbered kind cents numer denom = given_ratio_numbered (item_of kind cents numer denom)

pub read_scl_numbered : (text : List ℕ) (items : ItemTable) (list : ListTable) → Numbered (read_of (room_of items list) text)
read_scl_numbered text items list = reading.read_scl_numbered (room_of items list) text

pub new_scl_numbered : (items : ItemTable) (list : ListTable) → Numbered (builder_of items list)
new_scl_numbered items list = building.new_numbered items list

pub push_cents_numbered : (items : ItemTable) (room count : ℕ) (value : Float) → Numbered (pushed (state room count) items (Cents value))
push_cents_numbered items room count value = building.push_numbered (state room count) items (Cents value)

pub push_ratio_numbered : (items : ItemTable) (room count : ℕ) (value : Float) → Numbered (pushed_ratio (state room count) items value)
push_ratio_numbered items room count value = building.push_ratio_numbered (state room count) items value

pub push_int_numbered : (items : ItemTable) (room count value : ℕ) → Numbered (pushed (state room count) items (Fraction value None))
push_int_numbered items room count value = building.push_numbered (state room count) items (Fraction value None)

pub push_fraction_numbered : (items : ItemTable) (room count above below : ℕ) → Numbered (pushed (state room count) items (Fraction above (Some below)))
push_fraction_numbered items room count above below = building.push_numbered (state room count) items (Fraction above (Some below))

pub build_scl_numbered : (items : ItemTable) (list : ListTable) (room count : ℕ) → Numbered (counted (state room count) (built (state room count) items list))
build_scl_numbered items list room count = building.build_numbered (state room count) items list

pub export_scl_numbered : (description : List ℕ) (items : ItemTable) (count : ℕ) (out : List ℕ) → Numbered (text_length (export_of (record { count = count }) items description (length out)))
export_scl_numbered description items count out = numbered_then (export_numbered (record { count = count }) items description (length out)) (λ t. Numbered.value (length t))

-- ---- scales that are computed
pub create_harmonics_scale_numbered : (otonal : Bool) (start size : ℕ) (divided : Bool) (divisions : ℕ) (t : ItemTable) (l : ListTable) → Numbered (counted_of (made_harmonics t l (segment_with otonal) start size (divisions_with divided divisions)))
create_harmonics_scale_numbered otonal start size divided divisions t l = harmonics.create_harmonics_scale_numbered t l (segment_with otonal) start size (divisions_with divided divisions)

pub create_rank2_temperament_scale_numbered : (generator : Float) (positive negative : ℕ) (period : Float) (t : ItemTable) (l : ListTable) → Numbered (counted_of (made_rank2 t l generator positive negative period))
create_rank2_temperament_scale_numbered generator positive negative period t l = rank2.create_rank2_temperament_scale_numbered t l generator positive negative period
