-- A refusal of the builder has one of 01's numbers. Assumes nothing.
use mathlib.Core.Bool.{◌&&◌}
use Prim.Native.Nat.{◌+◌}
use native.Mathlib.Omega.{arith}
use lib.Dec.{ltb}
use lib.Ieee.{Float}
use Rattle.base.specs.Said.{Numbered}
use Rattle.base.proofs.Said.{numbered_pick, numbered_then}
use Rattle.sorted.specs.Lent.{ListTable}
use Rattle.scl.specs.Items.{is_usable}
use Rattle.scl.specs.Table.{ItemTable, items_in}
use Rattle.scl.specs.declared.Item.{Item}
use Rattle.scl.specs.declared.Item.TheVariants.{Cents}
use Rattle.pitch.proofs.Numbers.{as_cents_numbered}
use Rattle.scl_tables.specs.Room.{room_of}
use Rattle.scl_tables.proofs.Numbers.{sized_numbered}
use Rattle.scl_build.specs.Builder.{builder_of, fits_items, pushed, pushed_ratio, is_ready, built, counted}
use Rattle.scl_build.specs.declared.SclBuilder.{SclBuilder}

pub new_numbered : (t : ItemTable) (l : ListTable) → Numbered (builder_of t l)
new_numbered t l = numbered_pick (ltb 0 (room_of t l)) (Numbered.value _) (Numbered.number (omega arith) (omega arith))

-- of cents, an integer or a fraction
pub push_numbered : (b : SclBuilder) (t : ItemTable) (i : Item) → Numbered (pushed b t i)
unfolding pushed
push_numbered b t i =
    numbered_pick (fits_items b t && is_usable i) (numbered_pick (ltb (b.count + 1) b.room) (Numbered.value _) (Numbered.number (omega arith) (omega arith)))
    (Numbered.number (omega arith) (omega arith))

pub push_ratio_numbered : (b : SclBuilder) (t : ItemTable) (r : Float) → Numbered (pushed_ratio b t r)
unfolding pushed_ratio
push_ratio_numbered b t r = numbered_then (as_cents_numbered r) (λ c. push_numbered b t (Cents c))

pub build_numbered : (b : SclBuilder) (t : ItemTable) (l : ListTable) → Numbered (counted b (built b t l))
unfolding built
build_numbered b t l = numbered_then (numbered_pick (is_ready b t l) (sized_numbered (items_in b.count t)) (Numbered.number (omega arith) (omega arith))) (λ es. Numbered.value b.count)
