-- A lent list: its test in the code's steps, and what the test means. Assumes nothing.
use mathlib.Core.Path.{◌≡◌, refl, sym, ◌∙◌}
use mathlib.Core.Logic.{◌↔◌}
use mathlib.Core.Bool.{Bool, true, false, ◌&&◌}
use mathlib.Core.List.{List, [], ◌∷◌}
use Prim.Native.Nat.{ℕ, zero, suc, ◌+◌, ◌≤◌, ◌<◌, suc-le-suc}
use native.Mathlib.Nat.{le_of_suc-le-suc, not-suc-le-zero}
use native.Mathlib.Omega.{arith}
use lib.Dec.{leb, ltb}
use lib.ListN.{length, take}
use lib.Seq.{length-take-le}
use borrow.Author.Tests.{lt-ltb, le-ltb, ltb-true, leb-true, le-leb}
use Rattle.sorting.specs.Entries.{Columns}
use Rattle.sorting.proofs.Columns.{columns_zip}
use Rattle.sorted.specs.Lent.{places_of, ratios_of, ListTable, list_in, AllAtMost, Listed, usable, are_within, have_list, is_list}
use Rattle.sorted.proofs.Usable.{both, usable_is}

module _ (count : ℕ) (t : ListTable) where
  -- ---- the steps
  pub places_short : length t.places ≤ count → false ≡ is_list count t
  places_short h = rw (le-ltb count (length t.places) h)

  module _ (p : count < length t.places) where
    pub ratios_short : length t.ratios ≤ count → false ≡ is_list count t
    ratios_short h = rw (lt-ltb count (length t.places) p, le-ltb count (length t.ratios) h)

    module _ (r : count < length t.ratios) where
      pub wraps_short : length t.wraps ≤ count → false ≡ is_list count t
      wraps_short h = rw (lt-ltb count (length t.places) p, lt-ltb count (length t.ratios) r, le-ltb count (length t.wraps) h)

      module _ (w : count < length t.wraps) where
        pub have_list_law : have_list count t ≡ true
        have_list_law = rw (lt-ltb count (length t.places) p, lt-ltb count (length t.ratios) r, lt-ltb count (length t.wraps) w)

        -- the columns of the list are the first places of the lent ones
        pub list_columns : Columns (list_in count t) (take (count + 1) t.places) (take (count + 1) t.ratios) (take (count + 1) t.wraps)
        list_columns =
            let lp = length-take-le (count + 1) t.places (omega (arith, p)) in
            let lr = length-take-le (count + 1) t.ratios (omega (arith, r)) in
            let lw = length-take-le (count + 1) t.wraps (omega (arith, w)) in
            columns_zip (take (count + 1) t.places) (take (count + 1) t.ratios) (take (count + 1) t.wraps) (lr ∙ sym lp) (lw ∙ sym lp)

        pub list_tests : {tested : Bool} → tested ≡ (usable (take (count + 1) t.ratios) && are_within count (take (count + 1) t.places)) → tested ≡ is_list count t
        list_tests e = e ∙ rw (have_list_law, sym list_columns.ratios, sym list_columns.places)

-- ---- what it means
within_at : (n : ℕ) (ps : List ℕ) → are_within n ps ≡ true → AllAtMost n ps
unfolding are_within
within_at n [] h i k = absurd (not-suc-le-zero k)
within_at n (p ∷ ps) h zero k = leb-true p n (both (leb p n) (are_within n ps) h).0
within_at n (p ∷ ps) h (suc i) k = within_at n ps (both (leb p n) (are_within n ps) h).1 i (le_of_suc-le-suc k)

pub at_within : (n : ℕ) (ps : List ℕ) → AllAtMost n ps → are_within n ps ≡ true
unfolding are_within
at_within n [] h = refl
at_within n (p ∷ ps) h = rw (le-leb p n (h 0 (omega arith))) (at_within n ps (λ i k. h (suc i) (suc-le-suc k)))

-- "list ratios lie in 2^-900..2^900 and never fall, with places within the count", and a place for every entry in each column
pub list_is : (count : ℕ) (t : ListTable) → (is_list count t ≡ true) ↔ Listed count t
list_is count t = (
  (λ h.
      let es = list_in count t in
      let all = both (have_list count t) (usable (ratios_of es) && are_within count (places_of es)) h in
      let rooms = both (ltb count (length t.places) && ltb count (length t.ratios)) (ltb count (length t.wraps)) all.0 in
      let first = both (ltb count (length t.places)) (ltb count (length t.ratios)) rooms.0 in
      let tests = both (usable (ratios_of es)) (are_within count (places_of es)) all.1 in
      let up = (usable_is (ratios_of es)).0 tests.0 in
      record {
        places_room = ltb-true count (length t.places) first.0;
        ratios_room = ltb-true count (length t.ratios) first.1;
        wraps_room = ltb-true count (length t.wraps) rooms.1;
        reach = up.0;
        rises = up.1;
        within = within_at count (places_of es) tests.1;
      }),
  (λ l.
      let es = list_in count t in
      rw (have_list_law count t l.places_room l.ratios_room l.wraps_room, (usable_is (ratios_of es)).1 (l.reach, l.rises)) (at_within count (places_of es) l.within)),
)
