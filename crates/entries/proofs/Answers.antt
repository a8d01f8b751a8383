-- What a pass answers is what the column search answers on the list's columns. Assumes nothing.
use mathlib.Core.Path.{◌≡◌, refl, sym, ◌∙◌, ap, subst}
use mathlib.Core.Bool.{Bool, true, false, ◌&&◌}
use mathlib.Core.List.{List, [], ◌∷◌}
use Prim.Native.Nat.{ℕ, zero, suc, ◌+◌, ◌-◌, ◌≤◌, ◌<◌, zero-le}
use native.Mathlib.Omega.{arith}
use lib.Dec.{eqb, ltb}
use lib.IntN.{pos}
use lib.ListN.{length, get_or, take, length-map}
use lib.Seq.{length-take-le}
use lib.Ieee.{Float, nan}
use borrow.Author.Tests.{eqb-true, eqb-false, ltb-true}
use Rattle.base.specs.Numbers.{beyond_reach}
use Rattle.base.specs.Said.{Said, gives, refuses, pick, and_then}
use Rattle.floats.specs.Floats.{zero_f}
use Rattle.floats.specs.Ranges.{in_reach, in_search}
use Rattle.sorting.specs.Entries.{Entry, zip}
use Rattle.sorting.proofs.Order.{clash}
use Rattle.sorted.specs.Lent.{places_of, ratios_of, wraps_of, list_in, AllInReach, usable_after, usable, are_within, have_list, first_not_below}
use Rattle.sorted.proofs.Search.{le_le}
use Rattle.sorted.proofs.Usable.{reach_positive, usable_in_reach, usable_rises}
use Rattle.scl.specs.Table.{ItemTable, items_in, is_items}
use Rattle.scl.proofs.Table.{both}
use Rattle.relative.specs.Scales.{tested, is_scale}
use Rattle.relative.specs.Scales as scales
use Rattle.relative.proofs.Places.{items_count}
use Rattle.searching.specs.Search.{chosen_of, index_of, found_at, nearest_of, search_of}
use Rattle.searching.specs.declared.Choice.{Choice}
use Rattle.searching.specs.declared.Found.{Found}
use Rattle.searching.proofs.Given.{clamped_in}
use Rattle.searching.proofs.Opened.{picked_at, nearest_told, search_none}
use Rattle.searching.specs.declared.approximation.Approximation.{Approximation}
use Rattle.entries.specs.Entries.{as_entry, as_entries, columns_in, no_sorted_entry}
use Rattle.entries.specs.declared.SortedEntry.{SortedEntry}
use Rattle.entries.specs.Columns.{degree_by, column_search}
use Rattle.entries.specs.Scans.{Aims, Starts, scan_places, scanned, Comparable, Ready, chosen_by, nearest_by, found_by, answer_of}
use Rattle.entries.specs.declared.search.Aim.{Aim}
use Rattle.entries.specs.declared.search.Scan.{Scan}
use Rattle.entries.proofs.Opened.{found_none, found_beyond, found_near, answer_unusable, answer_usable}
use Rattle.entries.proofs.Passes.{run, scanned_is, run_count, run_aim, run_usable, and_true, Ends, run_ends}

-- ---- a slice of structs and its columns
first_listed : (n : ℕ) (l : List SortedEntry) → zip (take n (places_of (as_entries l))) (take n (ratios_of (as_entries l))) (take n (wraps_of (as_entries l))) ≡ as_entries (take n l)
first_listed zero l = refl
first_listed (suc n) [] = refl
first_listed (suc n) (e ∷ l) = ap (λ (m : List Entry). as_entry e ∷ m) (first_listed n l)

pub listed : (count : ℕ) (l : List SortedEntry) → list_in count (columns_in l) ≡ as_entries (take (count + 1) l)
listed count l = first_listed (count + 1) l

entry_at : (l : List SortedEntry) (i : ℕ) → get_or (as_entries l) i scales.no_entry ≡ as_entry (get_or l i no_sorted_entry)
entry_at [] i = refl
entry_at (e ∷ l) zero = refl
entry_at (e ∷ l) (suc i) = entry_at l i

ratio_at_law : (l : List SortedEntry) (i : ℕ) → get_or (ratios_of (as_entries l)) i nan ≡ (get_or l i no_sorted_entry).ratio
ratio_at_law [] i = refl
ratio_at_law (e ∷ l) zero = refl
ratio_at_law (e ∷ l) (suc i) = ratio_at_law l i

ratios_size : (l : List SortedEntry) → length (ratios_of (as_entries l)) ≡ length l
ratios_size l = length-map (as_entries l) (λ (e : Entry). e.ratio) ∙ length-map l as_entry

pub columns_have : (count : ℕ) (l : List SortedEntry) → have_list count (columns_in l) ≡ ltb count (length l)
columns_have count l =
    let n = length-map l as_entry in
    rw (length-map (as_entries l) (λ (e : Entry). e.place) ∙ n, length-map (as_entries l) (λ (e : Entry). e.ratio) ∙ n, length-map (as_entries l) (λ (e : Entry). e.wraps) ∙ n) (thrice (ltb count (length l)))
  where
    thrice : (b : Bool) → (b && b && b) ≡ b
    thrice true = refl
    thrice false = refl

-- ---- booleans
none_usable : (a b c d : Bool) → ((a && b) && c) ≡ false → ((a && (c && d)) && b) ≡ false
none_usable false b c d h = refl
none_usable true false c d h = go (c && d)
  where
    go : (e : Bool) → (e && false) ≡ false
    go true = refl
    go false = refl
none_usable true true false d h = refl
none_usable true true true d h = clash refl h

all_usable : (a b c d : Bool) → ((a && b) && c) ≡ true → ((a && (c && d)) && b) ≡ d
all_usable true true true d h = and_true d
all_usable true true false d h = clash h refl
all_usable true false c d h = clash h refl
all_usable false b c d h = clash h refl

-- ---- the chosen neighbour
then_same : {A B : Type 0} (s : Said A) (f g : A → Said B) → ((a : A) → f a ≡ g a) → and_then s f ≡ and_then s g
then_same (gives a) f g h = h a
then_same (refuses n d) f g h = refl

module _ (es : List SortedEntry) (f : Scan) (ends : Ends es f) where
  chosen_same : (c : Choice) → chosen_by f c ≡ picked_at (as_entries es) f.aim.periods f.at c
  chosen_same c = same c.upper
    where
      at : Bool → Said Found
      at b = gives (found_at (get_or (as_entries es) (index_of f.at b) scales.no_entry) (index_of f.at b) f.aim.periods c.deviation)

      from : Bool → Said Found
      from b = gives (found_at (as_entry (pick b f.upper f.lower)) (index_of f.at b) f.aim.periods c.deviation)

      same : (b : Bool) → from b ≡ at b
      same true = ap (λ (e : Entry). gives (found_at e f.at f.aim.periods c.deviation)) (ap as_entry ends.1 ∙ sym (entry_at es f.at))
      same false = ap (λ (e : Entry). gives (found_at e (f.at - 1) f.aim.periods c.deviation)) (ap as_entry ends.2 ∙ sym (entry_at es (f.at - 1)))

  pub nearest_same : nearest_by f ≡ nearest_of (as_entries es) f.aim.periods f.aim.target
  unfolding nearest_by
  nearest_same =
      then_same (chosen_of f.lower.ratio f.upper.ratio f.aim.target) (chosen_by f) (picked_at (as_entries es) f.aim.periods f.at) chosen_same
      ∙ nearest_told (as_entries es) f.aim.periods f.aim.target f.at (ap (λ (e : SortedEntry). e.ratio) ends.2 ∙ ap (λ (e : Entry). e.ratio) (sym (entry_at es (f.at - 1)))) (ap (λ (e : SortedEntry). e.ratio) ends.1 ∙ ap (λ (e : Entry). e.ratio) (sym (entry_at es f.at))) ends.0 refl

-- ---- a list that can be used
module _ (s : Scan) (T : in_reach s.aim.target ≡ true) where
  ends_of : (es : List SortedEntry) → 1 < length es → usable (ratios_of (as_entries es)) ≡ true → Ends es (run s es 0)
  ends_of [] n h = absurd (omega (arith, n))
  ends_of (a ∷ []) n h = absurd (omega (arith, n))
  ends_of (a ∷ b ∷ l) n h =
      let reach = usable_in_reach zero_f (ratios_of (as_entries (a ∷ b ∷ l))) h in
      let size = ratios_size (a ∷ b ∷ l) in
      run_ends s a b l (λ q. le_le a.ratio b.ratio s.aim.target (reach_positive a.ratio (reach 0 (omega (arith, size)))) (reach_positive b.ratio (reach 1 (omega (arith, size, n)))) (reach_positive s.aim.target T) q (usable_rises zero_f (ratios_of (as_entries (a ∷ b ∷ l))) h 0 1 (omega arith) (omega (arith, size, n))))

module _ (es : List SortedEntry) (f : Scan) (ends : Ends es f) (reach : AllInReach (ratios_of (as_entries es))) (T : in_reach f.aim.target ≡ true) (two : 1 < length es) (size : length es ≡ f.count + 1) where
  bounds : (0 < f.at) × (f.at ≤ f.count)
  bounds =
      let c = clamped_in (length (as_entries es) - 1) (first_not_below (ratios_of (as_entries es)) f.aim.target) (let n = length-map es as_entry in omega (arith, n, two)) in
      let e = ends.0 in
      let n = length-map es as_entry in
      (omega (arith, e, c.0), omega (arith, e, c.1, n, size))

  reach_at : (i : ℕ) → i < length es → in_reach (get_or es i no_sorted_entry).ratio ≡ true
  reach_at i h = subst (λ (x : Float). in_reach x ≡ true) (ratio_at_law es i) (reach i (let n = ratios_size es in omega (arith, n, h)))

  near_of : Comparable f
  near_of = record {
    lower_reach = subst (λ (e : SortedEntry). in_reach e.ratio ≡ true) (sym ends.2) (reach_at (f.at - 1) (omega (arith, bounds.1, size)));
    upper_reach = subst (λ (e : SortedEntry). in_reach e.ratio ≡ true) (sym ends.1) (reach_at f.at (omega (arith, bounds.1, size)));
    target_reach = T;
    some = bounds.0;
    inside = bounds.1;
  }

-- ---- the call
module _ (count : ℕ) (t : ItemTable) (ys : List SortedEntry) (x : Float) (s : Scan) (st : Starts count t (length ys) x s) where
  count_is : s.count ≡ count
  count_is = ap (λ (r : Scan). r.count) st.begins

  last_is : s.last ≡ zero_f
  last_is = ap (λ (r : Scan). r.last) st.begins

  abbrev pub left : Scan
  left = scanned s ys (scan_places s)

  abbrev es : List SortedEntry
  es = take (count + 1) ys

  abbrev said : Bool → Said Approximation
  said sorted = and_then (search_of (items_in count t) (list_in count (columns_in ys)) x) (degree_by sorted count)

  abbrev sound : Bool
  sound = usable (ratios_of (as_entries es)) && are_within count (places_of (as_entries es))

  test_on : (is_scale count t (columns_in ys) && in_search x) ≡ ((is_items count t && (ltb count (length ys) && sound)) && in_search x)
  test_on =
      ap (λ (b : Bool). (is_items count t && (b && (usable (ratios_of (list_in count (columns_in ys))) && are_within count (places_of (list_in count (columns_in ys)))))) && in_search x) (columns_have count ys)
      ∙ ap (λ (l : List Entry). (is_items count t && (ltb count (length ys) && (usable (ratios_of l) && are_within count (places_of l)))) && in_search x) (listed count ys)

  -- a start that cannot be used
  module _ (u : s.usable ≡ false) where
    stays : left ≡ s
    stays = ap (λ (b : Bool). scanned s ys (pick b (s.count + 1) 0)) u

    refused : (sorted : Bool) → answer_of left sorted ≡ tested (is_scale count t (columns_in ys) && in_search x) (said sorted)
    refused sorted =
        ap (λ (r : Scan). answer_of r sorted) stays ∙ sym (answer_unusable s sorted u)
        ∙ ap (λ (b : Bool). tested b (said sorted)) (sym (test_on ∙ none_usable (is_items count t) (in_search x) (ltb count (length ys)) sound (sym st.usable_is ∙ u)))

  -- one that can
  module _ (u : s.usable ≡ true) where
    tests : ((is_items count t && in_search x) && ltb count (length ys)) ≡ true
    tests = sym st.usable_is ∙ u

    room : count + 1 ≤ length ys
    room = let h = ltb-true count (length ys) (both (is_items count t && in_search x) (ltb count (length ys)) tests).1 in omega (arith, h)

    items_are : is_items count t ≡ true
    items_are = (both (is_items count t) (in_search x) (both (is_items count t && in_search x) (ltb count (length ys)) tests).0).0

    size : length es ≡ count + 1
    size = length-take-le (count + 1) ys room

    abbrev r : Scan
    r = run s es 0

    runs : left ≡ r
    runs = ap (λ (b : Bool). scanned s ys (pick b (s.count + 1) 0)) u ∙ ap (λ (n : ℕ). scanned s ys (n + 1)) count_is ∙ scanned_is s ys (count + 1) room

    count_run : r.count ≡ count
    count_run = run_count es s 0 ∙ count_is

    usable_run : r.usable ≡ sound
    usable_run =
        run_usable es s 0 ∙ ap (λ (b : Bool). b && (usable_after s.last (ratios_of (as_entries es)) && are_within s.count (places_of (as_entries es)))) u
        ∙ ap (λ (z : Float). usable_after z (ratios_of (as_entries es)) && are_within s.count (places_of (as_entries es))) last_is
        ∙ ap (λ (n : ℕ). usable (ratios_of (as_entries es)) && are_within n (places_of (as_entries es))) count_is

    test_is : (is_scale count t (columns_in ys) && in_search x) ≡ r.usable
    test_is = test_on ∙ all_usable (is_items count t) (in_search x) (ltb count (length ys)) sound tests ∙ sym usable_run

    -- the list can be used too
    module _ (g : r.usable ≡ true) where
      rises : usable (ratios_of (as_entries es)) ≡ true
      rises = (both (usable (ratios_of (as_entries es))) (are_within count (places_of (as_entries es))) (sym usable_run ∙ g)).0

      module _ (some : 0 < count) where
        aims : Aims (items_in count t) x s.aim
        aims = st.aims u some

        ends : Ends es r
        ends = ends_of s aims.reach es (omega (arith, size, some)) rises

        near : Comparable r
        near = near_of es r ends (usable_in_reach zero_f (ratios_of (as_entries es)) rises) (subst (λ (a : Aim). in_reach a.target ≡ true) (sym (run_aim es s 0)) aims.reach) (omega (arith, size, some)) (let n = count_run in omega (arith, size, n))

        by_beyond : (b : Bool) → r.aim.beyond ≡ b → found_by r ≡ pick b (refuses beyond_reach 0) (nearest_of (as_entries es) r.aim.periods r.aim.target)
        by_beyond true e = sym (found_beyond r (λ z. let n = count_run in omega (arith, some, n, z)) e)
        by_beyond false e = sym (found_near r (λ z. let n = count_run in omega (arith, some, n, z)) e) ∙ nearest_same es r ends

        found_some : found_by r ≡ search_of (items_in count t) (as_entries es) x
        found_some =
            by_beyond r.aim.beyond refl
            ∙ ap (λ (a : Aim). pick a.beyond (refuses beyond_reach 0) (nearest_of (as_entries es) a.periods a.target)) (run_aim es s 0)
            ∙ sym (aims.search (as_entries es))

      upper_first : (l : List SortedEntry) → length l ≡ 1 → (run s l 0).upper ≡ get_or l 0 no_sorted_entry
      upper_first [] n = absurd (omega (arith, n))
      upper_first (a ∷ []) n = refl
      upper_first (a ∷ b ∷ l) n = absurd (omega (arith, n))

      found_first : count ≡ 0 → found_by r ≡ search_of (items_in count t) (as_entries es) x
      found_first z =
          sym (found_none r (count_run ∙ z))
          ∙ ap (λ (y : Float). gives (found_at (as_entry r.upper) 0 (pos 0) y)) (ap (λ (a : Aim). a.target) (run_aim es s 0) ∙ st.whole u z)
          ∙ ap (λ (e : Entry). gives (found_at e 0 (pos 0) x)) (ap as_entry (upper_first es (omega (arith, size, z))) ∙ sym (entry_at es 0))
          ∙ search_none (items_in count t) (as_entries es) count x (items_count count t items_are) z

      found_same : found_by r ≡ search_of (items_in count t) (list_in count (columns_in ys)) x
      found_same = go (eqb count 0) refl ∙ ap (λ (l : List Entry). search_of (items_in count t) l x) (sym (listed count ys))
        where
          go : (b : Bool) → eqb count 0 ≡ b → found_by r ≡ search_of (items_in count t) (as_entries es) x
          go true e = found_first (eqb-true count 0 e)
          go false e = found_some (let n = eqb-false count 0 e in omega (arith, n))

      accepted : (sorted : Bool) → answer_of r sorted ≡ said sorted
      accepted sorted =
          sym (answer_usable r sorted g) ∙ ap (λ (n : ℕ). and_then (found_by r) (degree_by sorted n)) count_run ∙ ap (λ (a : Said Found). and_then a (degree_by sorted count)) found_same

    by_list : (b : Bool) → r.usable ≡ b → (sorted : Bool) → answer_of r sorted ≡ tested b (said sorted)
    by_list true g sorted = accepted g sorted
    by_list false g sorted = sym (answer_unusable r sorted g)

    answered : (sorted : Bool) → answer_of left sorted ≡ tested (is_scale count t (columns_in ys) && in_search x) (said sorted)
    answered sorted = ap (λ (f : Scan). answer_of f sorted) runs ∙ by_list r.usable refl sorted ∙ ap (λ (b : Bool). tested b (said sorted)) (sym test_is)

    near_left : left.usable ≡ true → 0 < left.count → Comparable left
    near_left g some =
        let e : r.count ≡ left.count = ap (λ (f : Scan). f.count) (sym runs) in
        let n = count_run in
        subst Comparable (sym runs) (near (subst (λ (f : Scan). f.usable ≡ true) runs g) (omega (arith, some, n, e)))

  pub steps_in : scan_places s ≤ length ys
  steps_in = go s.usable refl
    where
      go : (b : Bool) → s.usable ≡ b → pick b (s.count + 1) 0 ≤ length ys
      go true u = let n = count_is in let m = room u in omega (arith, n, m)
      go false u = zero-le

  pub ready : Ready left
  ready = record { near = go s.usable refl }
    where
      go : (b : Bool) → s.usable ≡ b → left.usable ≡ true → 0 < left.count → Comparable left
      go true u g some = near_left u g some
      go false u g some = clash g (ap (λ (f : Scan). f.usable) (stays u) ∙ u)

  pub answers : (sorted : Bool) → answer_of left sorted ≡ column_search sorted count t (columns_in ys) x
  answers sorted = go s.usable refl
    where
      go : (b : Bool) → s.usable ≡ b → answer_of left sorted ≡ tested (is_scale count t (columns_in ys) && in_search x) (said sorted)
      go true u = answered u sorted
      go false u = refused u sorted
