-- What a user has of a call that stores the list as structs: its contract as one statement, and what it is that the two forms hold the
-- same list. That an accepted call leaves it so is proofs/Theorems.antt. Assumes nothing.
use Rattle.std.specs.Prelude.{◌≡◌, List, ℕ, ◌+◌, ◌<◌, length, take, Result}
use Rattle.scl_read.specs.declared.SclRead.{SclRead}
use Rattle.scl.specs.declared.Scl.{Scl}
use Rattle.base.specs.declared.Refusal.{Refusal}
use Rattle.base.specs.Said.{outcome}
use Rattle.sorted.specs.Lent.{ListTable, list_in}
use Rattle.scl.specs.Answers.{says_scl}
use Rattle.scl.specs.Table.{ItemTable}
use Rattle.scl_tables.specs.Build.{after_list}
use Rattle.scl_build.specs.Builder.{counted}
use Rattle.scl_build.specs.declared.SclBuilder.{SclBuilder}
use Rattle.scl_read.specs.Reader.{items_after, sorted_after}
use Rattle.entries.specs.declared.SortedEntry.{SortedEntry}
use Rattle.entries.specs.Entries.{as_entries}
use Rattle.entries.specs.Builds.{built_in, after_entries}
use Rattle.entries.specs.Readings.{read_in, sorted_read}

-- the slice of structs has, place for place, the list of count items that the columns have; both have a place for each entry
pub record SameList (count : ℕ) (left : ListTable) (es : List SortedEntry) : Type 0 where
  pub list_room : count < length es
  pub places_room : count < length left.places
  pub ratios_room : count < length left.ratios
  pub wraps_room : count < length left.wraps
  pub same : as_entries (take (count + 1) es) ≡ list_in count left

-- ---- the contracts, of what is lent (t, l, old), what is answered (r) and what is left
abbrev pub BuildEntries : SclBuilder → ItemTable → ListTable → List SortedEntry → (Result Scl Refusal) → ListTable → List SortedEntry → Type 0
BuildEntries b t l old r left es =
    (says_scl r ≡ counted b (built_in b t l (length old))) × (left ≡ after_list (built_in b t l (length old)) l)
    × (as_entries es ≡ after_entries (built_in b t l (length old)) (as_entries old))

abbrev pub ReadEntries : List ℕ → ItemTable → ListTable → List SortedEntry → (Result SclRead Refusal) → ItemTable → ListTable → List SortedEntry → Type 0
ReadEntries text t l old r items left es =
    (outcome r ≡ read_in text t l (length old)) × (items ≡ items_after (read_in text t l (length old)) text t)
    × (left ≡ sorted_after (read_in text t l (length old)) text l) × (as_entries es ≡ after_entries (sorted_read text (read_in text t l (length old))) (as_entries old))
