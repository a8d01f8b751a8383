-- WHICHEVER FORM OF THE LIST A USER KEEPS, a search answers the same. Document 01, "Scales and searches". Assumes nothing.
use Rattle.std.specs.Prelude.{Result}
use Rattle.scl.specs.declared.Scl.{Scl}
use Rattle.base.specs.declared.Refusal.{Refusal}
use mathlib.Core.Path.{◌≡◌, refl, sym, ◌∙◌, ap}
use mathlib.Core.Bool.{Bool, true, false, ◌&&◌}
use mathlib.Core.List.{List}
use Prim.Native.Nat.{ℕ}
use lib.ListN.{length}
use lib.Ieee.{Float}
use borrow.Author.Tests.{lt-ltb}
use Rattle.base.specs.Said.{Said, gives, and_then, One, outcome}
use Rattle.floats.specs.Ranges.{in_search}
use Rattle.sorting.specs.Entries.{Entry}
use Rattle.sorted.specs.Lent.{ListTable, places_of, ratios_of, list_in, usable, are_within, have_list}
use Rattle.scl.specs.Answers.{says_scl}
use Rattle.scl.specs.Table.{ItemTable, Typed, items_in, is_items}
use Rattle.scl_build.specs.declared.SclBuilder.{SclBuilder}
use Rattle.scl_read.specs.declared.SclRead.{SclRead}
use Rattle.relative.specs.Scales.{tested, is_scale}
use Rattle.searching.specs.Search.{search_of}
use Rattle.searching.specs.Degrees.{declared_of, ascending_of}
use Rattle.searching.specs.declared.approximation.Approximation.{Approximation}
use Rattle.searching.proofs.Theorems.{degree_search_one}
use Rattle.entries.specs.Entries.{columns_in}
use Rattle.entries.specs.Same.{SameList, BuildEntries, ReadEntries}
use Rattle.entries.specs.declared.SortedEntry.{SortedEntry}
use Rattle.entries.proofs.Theorems.{build_entries_accepted, read_entries_accepted}
use Rattle.entries.specs.Columns.{degree_by, column_search}
use Rattle.entries.proofs.Answers.{listed, columns_have}

-- ---- the definition is the two column calls' contracts
module _ (count : ℕ) (t : ItemTable) (l : ListTable) (x : Float) where
  pub declared_search : column_search false count t l x ≡ tested (is_scale count t l && in_search x) (and_then (search_of (items_in count t) (list_in count l) x) (declared_of count))
  declared_search = refl

  pub ascending_search : column_search true count t l x ≡ tested (is_scale count t l && in_search x) (and_then (search_of (items_in count t) (list_in count l) x) (ascending_of count))
  ascending_search = refl

  -- the call has one result
  pub find_in_entries_one : (sorted : Bool) → One outcome (column_search sorted count t l x)
  find_in_entries_one sorted = degree_search_one (column_search sorted count t l x)

-- ---- a list of structs and columns that hold the same list
module _ (sorted : Bool) (count : ℕ) (t : ItemTable) (left : ListTable) (es : List SortedEntry) (x : Float) (h : SameList count left es) where
  same_room : have_list count (columns_in es) ≡ have_list count left
  same_room =
      columns_have count es ∙ lt-ltb count (length es) h.list_room
      ∙ sym (rw (lt-ltb count (length left.places) h.places_room, lt-ltb count (length left.ratios) h.ratios_room, lt-ltb count (length left.wraps) h.wraps_room) refl)

  same_entries : list_in count (columns_in es) ≡ list_in count left
  same_entries = listed count es ∙ h.same

  abbrev at : Bool → List Entry → Said Approximation
  at room list = tested ((is_items count t && (room && (usable (ratios_of list) && are_within count (places_of list)))) && in_search x) (and_then (search_of (items_in count t) list x) (degree_by sorted count))

  pub same_search : column_search sorted count t (columns_in es) x ≡ column_search sorted count t left x
  same_search = ap (λ (b : Bool). at b (list_in count (columns_in es))) same_room ∙ ap (at (have_list count left)) same_entries

  -- so the answer of the one call is the answer of the other
  same_answer : (r s : (Result Approximation Refusal)) → outcome r ≡ column_search sorted count t (columns_in es) x → outcome s ≡ column_search sorted count t left x → r ≡ s
  same_answer r s a b = degree_search_one (column_search sorted count t left x) r s (a ∙ same_search) b

-- ---- AFTER AN ACCEPTED CALL: r is what `find_in_entries` answers on the list of structs that it leaves, s what the column search
-- answers on the columns that it leaves
pub search_after_build : (b : SclBuilder) (t : ItemTable) (l : ListTable) (old : List SortedEntry) (answer : (Result Scl Refusal)) (left : ListTable) (es : List SortedEntry) → BuildEntries b t l old answer left es → Typed t → (count : ℕ) → says_scl answer ≡ gives count
    → (sorted : Bool) (x : Float) (r s : (Result Approximation Refusal)) → outcome r ≡ column_search sorted count t (columns_in es) x → outcome s ≡ column_search sorted count t left x → r ≡ s
search_after_build b t l old answer left es c typed count a sorted x = same_answer sorted count t left es x (build_entries_accepted b t l old answer left es c typed count a).0

pub search_after_read : (text : List ℕ) (t : ItemTable) (l : ListTable) (old : List SortedEntry) (answer : (Result SclRead Refusal)) (items : ItemTable) (left : ListTable) (es : List SortedEntry) → ReadEntries text t l old answer items left es → (read : SclRead) → outcome answer ≡ gives read
    → (sorted : Bool) (x : Float) (r s : (Result Approximation Refusal)) → outcome r ≡ column_search sorted read.scl.count items (columns_in es) x → outcome s ≡ column_search sorted read.scl.count items left x → r ≡ s
search_after_read text t l old answer items left es c read a sorted x = same_answer sorted read.scl.count items left es x (read_entries_accepted text t l old answer items left es c read a).0
