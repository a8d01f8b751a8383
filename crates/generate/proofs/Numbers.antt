-- What a generator says is a value or one of document 01's numbers, where what makes its items says so. Assumes nothing.
use mathlib.Core.List.{List, [], ◌∷◌}
use Prim.Native.Nat.{ℕ, zero, suc}
use native.Mathlib.Omega.{arith}
use lib.Dec.{ltb}
use lib.ListN.{length}
use Rattle.base.specs.Said.{Said, Numbered}
use Rattle.base.proofs.Said.{numbered_pick, numbered_then}
use Rattle.sorted.specs.Lent.{ListTable}
use Rattle.scl.specs.Table.{ItemTable, items_in}
use Rattle.scl.specs.declared.Item.{Item}
use Rattle.scl_tables.specs.Room.{room_of}
use Rattle.scl_tables.proofs.Numbers.{sized_numbered}
use Rattle.scl_build.specs.Builder.{is_ready, built}
use Rattle.generate.specs.Generated.{all_pushed, list_of, made_of, counted_of, items_from}

list_numbered : (t : ItemTable) (l : ListTable) (is : List Item) → Numbered (list_of t l is)
unfolding built
list_numbered t l is =
    numbered_pick (is_ready (all_pushed t l is).builder (all_pushed t l is).table l) (sized_numbered (items_in (all_pushed t l is).builder.count (all_pushed t l is).table)) (Numbered.number (omega arith) (omega arith))

pub made_numbered : (t : ItemTable) (l : ListTable) (n : ℕ) {items : Said (List Item)} → Numbered items → Numbered (made_of t l n items)
unfolding made_of
made_numbered t l n m = numbered_pick (ltb n (room_of t l)) (numbered_then m (λ is. numbered_then (list_numbered t l is) (λ es. Numbered.value is))) (Numbered.number (omega arith) (omega arith))

pub counted_numbered : {made : Said (List Item)} → Numbered made → Numbered (counted_of made)
counted_numbered m = numbered_then m (λ is. Numbered.value (length is))

-- items made one by one
pub items_numbered : (f : ℕ → Said Item) → ((j : ℕ) → Numbered (f j)) → (n k : ℕ) → Numbered (items_from f k n)
unfolding items_from
items_numbered f h zero k = Numbered.value []
items_numbered f h (suc n) k = numbered_then (h k) (λ i. numbered_then (items_numbered f h n (suc k)) (λ is. Numbered.value (i ∷ is)))
