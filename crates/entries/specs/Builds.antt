-- A build beside a list of structs: the room is that of the columns and the list, so a state that does not fit the list gives 10, as
-- one that does not fit a column does (document 01, "What is taken", 5). Assumes nothing.
use Rattle.std.specs.Prelude.{◌≡◌, List, ℕ, ◌+◌, ◌≤◌, leb, length}
use Rattle.base.specs.Numbers.{unusable}
use Rattle.base.specs.Said.{Said, gives, refuses, pick}
use Rattle.base.specs.Tables.{over, after}
use Rattle.sorting.specs.Entries.{Entry}
use Rattle.sorted.specs.Lent.{ListTable}
use Rattle.scl.specs.Table.{ItemTable}
use Rattle.scl_build.specs.Builder.{built}
use Rattle.scl_build.specs.declared.SclBuilder.{SclBuilder}
use Rattle.entries.specs.Entries.{first_of}

-- the column call's build where the list has the state's room, else 10
unfoldable pub built_in : SclBuilder → ItemTable → ListTable → ℕ → Said (List Entry)
built_in b t l places = pick (leb b.room places) (built b t l) (refuses unusable 0)

-- the list after it: the entries that are said, and after them what was there; a refusal leaves it as it was
abbrev pub after_entries : Said (List Entry) → List Entry → List Entry
after_entries s old = after s (λ (es : List Entry). es) old

-- how many entries an answer stores
abbrev pub entries_stored : Said ℕ → ℕ
entries_stored (gives count) = count + 1
entries_stored (refuses number detail) = 0

-- ---- between the columns and the list
-- columns from which a list of so many places takes what an answer says: they and the list have room for it, and what they hold
-- first is the list that is said
pub record Holds (said : Said ℕ) (left : ListTable) (places : ℕ) (s : Said (List Entry)) : Type 0 where
  pub list_room : entries_stored said ≤ places
  pub places_room : entries_stored said ≤ length left.places
  pub ratios_room : entries_stored said ≤ length left.ratios
  pub wraps_room : entries_stored said ≤ length left.wraps
  pub stored : (old : List Entry) → over old (first_of (entries_stored said) left) ≡ after_entries s old
