-- WHAT AN ACCEPTED READ OF A SCALE LEAVES, for the theorems of the call `telbijan_read_scl` (proofs/Readings.antt). Assumes nothing.
use Rattle.std.specs.Prelude.{◌≡◌, true, List, ◌∷◌, ℕ, ◌+◌, ◌≤◌, length}
use Rattle.base.specs.Said.{gives}
use Rattle.scl.specs.Table.{ItemTable, items_in, implicit, is_items}
use Rattle.scl.specs.declared.Item.{Item}
use Rattle.sorted.specs.Lent.{ListTable, is_list}
use Rattle.sorting.specs.Entries.{Entry}
use Rattle.scl_tables.specs.Build.{after_list}
use Rattle.scl_build.specs.Builder.{behind}
use Rattle.scl_read.specs.declared.SclRead.{SclRead}
use Rattle.text.specs.Part.{part}

-- what an accepted call stores and leaves of a scale file: the count of its items; its description, as a part of the text; its items after
-- place 0, and its sorted list, both of which later calls take; behind them what was there
pub record ReadLeaves (text : List ℕ) (t : ItemTable) (l : ListTable) (d : List ℕ) (items : List Item) (list : List Entry)
    (u : ItemTable) (m : ListTable) (new : SclRead) : Type 0 where
  pub count : new.scl.count ≡ length items
  pub starts : new.description.start ≤ new.description.end
  pub ends : new.description.end ≤ length text
  pub description : part text new.description.start new.description.end ≡ d
  pub items_are : items_in new.scl.count u ≡ implicit ∷ items
  pub items_used : is_items new.scl.count u ≡ true
  pub items_behind : behind (length items + 1) u ≡ behind (length items + 1) t
  pub list_is : m ≡ after_list (gives list) l
  pub list_used : is_list new.scl.count m ≡ true
