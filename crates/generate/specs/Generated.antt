-- What a generator answers and leaves: as the Rust's, it pushes its items into a new builder and builds. "Generators know their item
-- count and test 13, 10, 12 in that order, then give 18 where it arises" (document 01, "Scales and searches"). Assumes nothing.
use Rattle.std.specs.Prelude.{◌≡◌, true, List, [], ◌∷◌, ℕ, zero, suc, ◌≤◌, ltb, length}
use Rattle.base.specs.Numbers.{no_room}
use Rattle.base.specs.Said.{Said, gives, refuses, pick, and_then}
use Rattle.sorting.specs.Entries.{Entry}
use Rattle.sorted.specs.Lent.{ListTable, is_list}
use Rattle.scl.specs.Table.{ItemTable, items_in, implicit, is_items}
use Rattle.scl.specs.declared.Item.{Item}
use Rattle.scl_tables.specs.Build.{after_list}
use Rattle.scl_tables.specs.Room.{room_of}
use Rattle.scl_build.specs.Builder.{Built, beside, state, after_new, after_all, built}

-- these items pushed into a new builder beside the tables, one after the other
abbrev pub all_pushed : ItemTable → ListTable → List Item → Built
all_pushed t l items = after_all (beside (state (room_of t l) 0) (after_new t l)) items

-- and the build after them: the sorted list, or why there is none
abbrev pub list_of : ItemTable → ListTable → List Item → Said (List Entry)
list_of t l items = built (all_pushed t l items).builder (all_pushed t l items).table l

-- the items of an accepted generator of so many: 12 where they and place 0 have no room, then what refuses one of them, then the build
unfoldable pub made_of : ItemTable → ListTable → ℕ → Said (List Item) → Said (List Item)
made_of t l count items = pick (ltb count (room_of t l)) (and_then items (λ is. and_then (list_of t l is) (λ es. gives is))) (refuses no_room 0)

-- the answer: how many they are
abbrev pub counted_of : Said (List Item) → Said ℕ
counted_of made = and_then made (λ is. gives (length is))

-- THE TABLES after it: what the pushes and the build leave; a refusal leaves them as they were
abbrev pub items_left : Said (List Item) → ItemTable → ListTable → ItemTable
items_left (gives is) t l = (all_pushed t l is).table
items_left (refuses number detail) t l = t

abbrev pub list_left : Said (List Item) → ItemTable → ListTable → ListTable
list_left (gives is) t l = after_list (list_of t l is) l
list_left (refuses number detail) t l = l

-- ---- items made one by one
-- the items of places k, k + 1, .., n of them: the first refusal is the answer
unfoldable pub items_from : (ℕ → Said Item) → ℕ → ℕ → Said (List Item)
items_from f k zero = gives []
items_from f k (suc n) = and_then (f k) (λ i. and_then (items_from f (suc k) n) (λ is. gives (i ∷ is)))

-- ---- what an accepted generator leaves
-- place 0 and its items; tables that pass every later call's test; a count of 16 bits
pub record Leaves (t : ItemTable) (l : ListTable) (items : List Item) : Type 0 where
  pub items_are : items_in (length items) (items_left (gives items) t l) ≡ implicit ∷ items
  pub usable : is_items (length items) (items_left (gives items) t l) ≡ true
  pub list : is_list (length items) (list_left (gives items) t l) ≡ true
  pub small : length items ≤ 65535
