-- A build beside a list of structs, by the test of the list's room; and that the columns hold what the list takes. Assumes nothing.
use mathlib.Core.Path.{◌≡◌, refl, sym, ◌∙◌, ap}
use mathlib.Core.Bool.{Bool, true, false}
use mathlib.Core.List.{List}
use Prim.Native.Nat.{ℕ, ◌+◌, ◌≤◌, ◌<◌, zero-le}
use native.Mathlib.Omega.{arith}
use lib.Dec.{leb}
use lib.ListN.{length, take, drop, length-append, length-map}
use lib.Seq.{take_at}
use borrow.Author.Tests.{le-leb, lt-leb, leb-true}
use Rattle.base.specs.Numbers.{unusable}
use Rattle.base.specs.Said.{Said, gives, refuses, pick}
use Rattle.base.specs.Tables.{over}
use Rattle.base.proofs.Said.{no_value}
use Rattle.sorting.specs.Entries.{Entry}
use Rattle.sorting.proofs.Columns.{zip_columns}
use Rattle.sorted.specs.Lent.{ListTable}
use Rattle.scl.specs.Table.{ItemTable, Typed, items_in}
use Rattle.scl.proofs.Table.{both, length_first, items_roomy, items_usable}
use Rattle.scl.proofs.Typed.{typed_held}
use Rattle.scl_tables.specs.Build.{sized_of, after_list}
use Rattle.scl_tables.proofs.Theorems.{list_leaves}
use Rattle.scl_build.specs.Builder.{fits_items, is_ready, built, counted}
use Rattle.scl_build.specs.declared.SclBuilder.{SclBuilder}
use Rattle.scl_build.proofs.Builds.{ready_items}
use Rattle.scl_build.proofs.Pushes.{fit_says}
use Rattle.scl_build.proofs.Theorems.{sized_given}
use Rattle.entries.specs.Builds.{built_in, Holds}
use Rattle.entries.specs.Entries.{first_of}

-- ---- a column over which a list is written
module _ {A : Type 0} (f : Entry → A) (old : List A) (n : ℕ) (es : List Entry) (size : length es ≡ n) where
  column_front : take n (over old (mathlib.Core.List.map f es)) ≡ mathlib.Core.List.map f es
  column_front = take_at (mathlib.Core.List.map f es) (drop (length (mathlib.Core.List.map f es)) old) n (length-map es f ∙ size)

  pub column_room : n ≤ length (over old (mathlib.Core.List.map f es))
  column_room = omega (arith, length-append (mathlib.Core.List.map f es) (drop (length (mathlib.Core.List.map f es)) old), length-map es f, size)

-- columns over which a list is written hold it first
pub first_is : (n : ℕ) (es : List Entry) (l : ListTable) → length es ≡ n → first_of n (after_list (gives es) l) ≡ es
first_is n es l size =
    rw (column_front (λ (e : Entry). e.place) l.places n es size, column_front (λ (e : Entry). e.ratio) l.ratios n es size, column_front (λ (e : Entry). e.wraps) l.wraps n es size)
    (zip_columns (record { places = refl; ratios = refl; wraps = refl }))

module _ (b : SclBuilder) (t : ItemTable) (l : ListTable) (n : ℕ) where
  -- ---- the answer
  pub short_is : n < b.room → built_in b t l n ≡ refuses unusable 0
  unfolding built_in
  short_is h = rw (lt-leb b.room n h)

  pub long_is : b.room ≤ n → built_in b t l n ≡ built b t l
  unfolding built_in
  long_is h = rw (le-leb b.room n h)

  abbrev Answered : Said ℕ → ListTable → Type 0
  Answered said left = (said ≡ counted b (built_in b t l n)) × (left ≡ after_list (built_in b t l n) l)

  short : n < b.room → Answered (refuses unusable 0) l
  short h = (ap (counted b) (sym (short_is h)), ap (λ (s : Said (List Entry)). after_list s l) (sym (short_is h)))

  long : b.room ≤ n → {said : Said ℕ} {left : ListTable} → (said ≡ counted b (built b t l)) × (left ≡ after_list (built b t l) l) → Answered said left
  long h a = (a.0 ∙ ap (counted b) (sym (long_is h)), a.1 ∙ ap (λ (s : Said (List Entry)). after_list s l) (sym (long_is h)))

  -- ---- what the columns hold
  module _ (typed : Typed t) where
    -- an accepted build: as many entries as places up to the count, which is below the room
    record Accepted (es : List Entry) : Type 0 where
      size : length es ≡ b.count + 1
      inside : b.count < b.room
      room : b.room ≤ n

    accepted : (es : List Entry) → built_in b t l n ≡ gives es → Accepted es
    unfolding built_in built
    accepted es e = by_room (leb b.room n) refl e
      where
        by_ready : b.room ≤ n → (x : Bool) → is_ready b t l ≡ x → pick x (sized_of (items_in b.count t)) (refuses unusable 0) ≡ gives es → Accepted es
        by_ready r true h q =
            let k = length_first (b.count + 1) t (items_roomy b.count t (ready_items b t l h)) in
            let some = list_leaves (items_in b.count t) (omega (arith, k)) (typed_held t typed b.count) (items_usable b.count t (ready_items b t l h)) es (sized_given b t l es (items_in b.count t) q).1 in
            record { size = some.size ∙ k; inside = (fit_says b t (both (fits_items b t) _ h).0).inside; room = r }
        by_ready r false h q = no_value q

        by_room : (x : Bool) → leb b.room n ≡ x → pick x (built b t l) (refuses unusable 0) ≡ gives es → Accepted es
        by_room true r q = by_ready (leb-true b.room n r) (is_ready b t l) refl q
        by_room false r q = no_value q

    holds_of : (s : Said (List Entry)) → built_in b t l n ≡ s → Holds (counted b s) (after_list s l) n s
    holds_of (gives es) e =
        let a = accepted es e in
        record {
          list_room = omega (arith, a.inside, a.room);
          places_room = column_room (λ (x : Entry). x.place) l.places (b.count + 1) es a.size;
          ratios_room = column_room (λ (x : Entry). x.ratio) l.ratios (b.count + 1) es a.size;
          wraps_room = column_room (λ (x : Entry). x.wraps) l.wraps (b.count + 1) es a.size;
          stored = λ old. ap (over old) (first_is (b.count + 1) es l a.size);
        }
    holds_of (refuses x d) e = record { list_room = zero-le; places_room = zero-le; ratios_room = zero-le; wraps_room = zero-le; stored = λ old. refl }

    -- of the call, by its answer and the columns after it
    abbrev Called : Said ℕ → ListTable → Type 0
    Called said left = (said ≡ counted b (built_in b t l n)) × (left ≡ after_list (built_in b t l n) l) × Holds said left n (built_in b t l n)

    pub holds_too : {said : Said ℕ} {left : ListTable} → Answered said left → Called said left
    holds_too a = (a.0, a.1, rw (a.0, a.1) (holds_of (built_in b t l n) refl))

    pub short_holds : n < b.room → Called (refuses unusable 0) l
    short_holds h = holds_too (short h)

    pub long_holds : b.room ≤ n → {said : Said ℕ} {left : ListTable} → (said ≡ counted b (built b t l)) × (left ≡ after_list (built b t l) l) → Called said left
    long_holds h a = holds_too (long h a)
