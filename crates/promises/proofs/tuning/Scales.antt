-- The list that an accepted read or build leaves in the columns is the one that it said, and a search in it is given. Assumes nothing.
use mathlib.Core.Path.{◌≡◌, refl, ◌∙◌, ap}
use mathlib.Core.Bool.{true}
use mathlib.Core.List.{List, [], ◌∷◌}
use Prim.Native.Nat.{ℕ, zero, suc, ◌+◌, ◌<◌}
use native.Mathlib.Nat.{not-suc-le-zero, le_of_suc-le-suc}
use lib.Dec.{lit≤}
use lib.ListN.{length, get_or, take, drop, length-map}
use lib.Seq.{take_at}
use lib.Ieee.{Float, binary64, fits, div}
use Rattle.base.specs.Said.{gives, and_then, Accepted}
use Rattle.base.specs.Tables.{over}
use Rattle.floats.specs.Floats.{one_f}
use Rattle.floats.specs.Ranges.{in_reach, in_search}
use Rattle.floats.proofs.Between.{over_within, within_more, within_reach}
use Rattle.floats.proofs.Ranges.{Within}
use Rattle.pitch.specs.Ratios.{deviation_from, is_negligible}
use Rattle.sorting.specs.Entries.{Entry}
use Rattle.sorting.proofs.Columns.{zip_columns}
use Rattle.sorting.proofs.Work.{All}
use Rattle.sorted.specs.Lent.{ListTable, places_of, ratios_of, wraps_of, list_in}
use Rattle.sorted.specs.Repeats.{near}
use Rattle.scl.specs.Items.{ratio_of, AllHeld}
use Rattle.scl.specs.Table.{are_usable}
use Rattle.scl.specs.declared.Item.{Item}
use Rattle.scl_tables.specs.Build.{last_of, sorted_of, after_list}
use Rattle.scl_tables.proofs.Beyond.{Fine, period_ratio, over as overridden}
use Rattle.scl_tables.proofs.Theorems.{list_leaves}
use Rattle.relative.specs.Scales.{no_entry}
use Rattle.searching.specs.Search.{search_of}
use Rattle.searching.proofs.Given.{search_given}

front : {A : Type 0} (n : ℕ) (old new : List A) → length new ≡ n → take n (over old new) ≡ new
front n old new e = take_at new (drop (length new) old) n e

pub left_is : (count : ℕ) (es : List Entry) (l : ListTable) → length es ≡ count + 1 → list_in count (after_list (gives es) l) ≡ es
left_is count es l n =
    rw (front (count + 1) l.places (places_of es) (length-map es (λ (e : Entry). e.place) ∙ n), front (count + 1) l.ratios (ratios_of es) (length-map es (λ (e : Entry). e.ratio) ∙ n), front (count + 1) l.wraps (wraps_of es) (length-map es (λ (e : Entry). e.wraps) ∙ n))
    (zip_columns (record { places = refl; ratios = refl; wraps = refl }))

-- a search of any ratio in 2^-64..2^64 is given: no 18, but for the one item whose ratio is 1.0
pub list_search : (items : List Item) (some : 0 < length items) (h : AllHeld items) (u : are_usable items ≡ true) (es : List Entry) → sorted_of items ≡ gives es → (x : Float) → fits binary64 x ≡ true → in_search x ≡ true
    → (length items ≡ 2 → ratio_of (last_of items) ≡ gives one_f → ⊥) → Accepted (search_of items es x)
list_search items some h u es e x fx sx except =
    search_given items some h u es (list_leaves items some h u es e) x fx sx (λ two one. except two ((period_ratio items some h u).is ∙ ap gives one))

-- ---- the repeat rule's `a.deviation_from(c).is_negligible()`: no step of it is refused, so the bare quotient of `near` is what it says
pub near_said : (a c : Float) → Within 32 32 a → Within 32 32 c → and_then (deviation_from a c) is_negligible ≡ gives (near a c)
near_said a c p q =
    let q-reach : in_reach (div binary64 a c) ≡ true = within_reach (within_more (lit≤ tt) (lit≤ tt) (over_within {a = 32} {b = 32} {c = 32} {d = 32} (lit≤ tt) (lit≤ tt) p q)) in
    let last : is_negligible (div binary64 a c) ≡ gives (near a c) = rw q-reach in
    rw (within_reach (within_more (lit≤ tt) (lit≤ tt) p), within_reach (within_more (lit≤ tt) (lit≤ tt) q), q-reach) last

all_at : (n : ℕ) (es : List Entry) (i : ℕ) → All (Fine n) es → i < length es → Fine n (get_or es i no_entry)
all_at n [] i a l = absurd (not-suc-le-zero l)
all_at n (e ∷ es) zero a l = a.0
all_at n (e ∷ es) (suc i) a l = all_at n es i a.1 (le_of_suc-le-suc l)

-- of any two entries of a scale that is arranged (`sorted_given` of scl_tables)
pub repeats_said : (items : List Item) (some : 0 < length items) (h : AllHeld items) (u : are_usable items ≡ true) (i j : ℕ) → i < length (overridden items some h u).given.value → j < length (overridden items some h u).given.value
    → and_then (deviation_from (get_or (overridden items some h u).given.value i no_entry).ratio (get_or (overridden items some h u).given.value j no_entry).ratio) is_negligible ≡ gives (near (get_or (overridden items some h u).given.value i no_entry).ratio (get_or (overridden items some h u).given.value j no_entry).ratio)
repeats_said items some h u i j k l =
    let o = overridden items some h u in
    near_said (get_or o.given.value i no_entry).ratio (get_or o.given.value j no_entry).ratio (all_at (length items) o.given.value i o.fine k).0 (all_at (length items) o.given.value j o.fine l).0
