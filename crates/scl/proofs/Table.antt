-- A lent table of items: what stands at a place, how the code goes over it, and what the test means. Assumes nothing.
use Rattle.std.specs.Prelude.{Some, None}
use mathlib.Core.Path.{◌≡◌, refl, sym, ◌∙◌, ap}
use mathlib.Core.Logic.{◌↔◌}
use mathlib.Core.Bool.{Bool, true, false, ◌&&◌, ◌||◌, and_assoc, and-true, true≢false}
use mathlib.Core.List.{List, [], ◌∷◌}
use Prim.Native.Nat.{ℕ, zero, suc, ◌+◌, ◌≤◌, ◌<◌, suc-le-suc}
use native.Mathlib.Nat.{le_of_suc-le-suc, not-suc-le-zero}
use native.Mathlib.Numerals.{add-one}
use native.Mathlib.Omega.{arith}
use lib.Dec.{eqb, ltb}
use lib.ListN.{length, get_or, take, drop, drop_of_length-le}
use lib.Seq.{drop-cons, get_or-take, length-take-le}
use lib.Ieee.{Float, nan, binary64, div, le, lt, eq, neg, of_bits, of_fields, odd, climb, span, size}
use borrow.Author.Tests.{eq-eqb, ne_eqb, lt-ltb, le-ltb, ltb-true}
use Rattle.floats.specs.Floats.{zero_f}
use Rattle.scl.specs.Items.{is_usable_cents, is_usable}
use Rattle.scl.specs.Table.{ItemTable, no_item, item_of, items_of, items_in, are_usable, have_items, is_items, Items}
use Rattle.scl.specs.declared.Item.{Item}
use Rattle.scl.specs.declared.Item.TheVariants.{Cents, Fraction}

pub both : (a b : Bool) → (a && b) ≡ true → (a ≡ true) × (b ≡ true)
both true b h = (refl, h)
both false b h = absurd (true≢false (sym h))

-- ---- the item of its four numbers
module _ (k : ℕ) (c : Float) (n d : ℕ) where
  pub item_cents : k ≡ 0 → item_of k c n d ≡ Cents c
  item_cents e = rw (eq-eqb k 0 e)

  pub item_fraction : (k ≡ 0 → ⊥) → k ≡ 1 → item_of k c n d ≡ Fraction n (Some d)
  item_fraction z e = rw (ne_eqb k 0 z, eq-eqb k 1 e)

  pub item_whole : (k ≡ 0 → ⊥) → (k ≡ 1 → ⊥) → k ≡ 2 → item_of k c n d ≡ Fraction n None
  item_whole z o e = rw (ne_eqb k 0 z, ne_eqb k 1 o, eq-eqb k 2 e)

  pub item_none : (k ≡ 0 → ⊥) → (k ≡ 1 → ⊥) → (k ≡ 2 → ⊥) → item_of k c n d ≡ no_item
  item_none z o t = rw (ne_eqb k 0 z, ne_eqb k 1 o, ne_eqb k 2 t)

-- what is computed of an unknown kind is no number
pub no_number : div binary64 zero_f zero_f ≡ nan
unfolding div of_bits of_fields odd climb span size
no_number = refl

-- no item is not usable
pub none_unusable : is_usable no_item ≡ false
unfolding le lt eq neg of_bits
none_unusable = refl

-- one test for all kinds, without a branch
pub item_test : (k : ℕ) (c : Float) (n d : ℕ) → (eqb k 0 && is_usable_cents c || (eqb k 1 && (ltb 0 n && ltb 0 d) || eqb k 2 && ltb 0 n)) ≡ is_usable (item_of k c n d)
item_test zero c n d = or_none (is_usable_cents c)
  where
    or_none : (a : Bool) → (a || (false || false)) ≡ a
    or_none true = refl
    or_none false = refl
item_test (suc zero) c n d = or_none (ltb 0 n && ltb 0 d)
  where
    or_none : (a : Bool) → (a || false) ≡ a
    or_none true = refl
    or_none false = refl
item_test (suc (suc zero)) c n d = sym (and-true (ltb 0 n))
item_test (suc (suc (suc k))) c n d =
    rw (ne_eqb (suc (suc (suc k))) 0 (λ e. omega arith), ne_eqb (suc (suc (suc k))) 1 (λ e. omega arith), ne_eqb (suc (suc (suc k))) 2 (λ e. omega arith)) (sym none_unusable)

-- ---- what stands at a place
pub length_items : (ks : List ℕ) (cs : List Float) (ns ds : List ℕ) → length cs ≡ length ks → length ns ≡ length ks → length ds ≡ length ks → length (items_of ks cs ns ds) ≡ length ks
unfolding items_of
length_items [] cs ns ds a b c = refl
length_items (k ∷ ks) [] ns ds a b c = absurd (omega arith)
length_items (k ∷ ks) (c' ∷ cs) [] ds a b c = absurd (omega arith)
length_items (k ∷ ks) (c' ∷ cs) (n ∷ ns) [] a b c = absurd (omega arith)
length_items (k ∷ ks) (c' ∷ cs) (n ∷ ns) (d ∷ ds) a b c = ap suc (length_items ks cs ns ds (omega arith) (omega arith) (omega arith))

pub item_at_law : (ks : List ℕ) (cs : List Float) (ns ds : List ℕ) (i : ℕ) → length cs ≡ length ks → length ns ≡ length ks → length ds ≡ length ks → i < length ks
    → get_or (items_of ks cs ns ds) i no_item ≡ item_of (get_or ks i 0) (get_or cs i nan) (get_or ns i 0) (get_or ds i 0)
unfolding items_of
item_at_law [] cs ns ds i a b c l = absurd (not-suc-le-zero l)
item_at_law (k ∷ ks) [] ns ds i a b c l = absurd (omega arith)
item_at_law (k ∷ ks) (c' ∷ cs) [] ds i a b c l = absurd (omega arith)
item_at_law (k ∷ ks) (c' ∷ cs) (n ∷ ns) [] i a b c l = absurd (omega arith)
item_at_law (k ∷ ks) (c' ∷ cs) (n ∷ ns) (d ∷ ds) zero a b c l = refl
item_at_law (k ∷ ks) (c' ∷ cs) (n ∷ ns) (d ∷ ds) (suc i) a b c l = item_at_law ks cs ns ds i (omega arith) (omega arith) (omega arith) (le_of_suc-le-suc l)

-- n places of four columns
pub record Roomy (n : ℕ) (t : ItemTable) : Type 0 where
  pub kinds : n ≤ length t.kinds
  pub cents : n ≤ length t.cents
  pub numers : n ≤ length t.numers
  pub denoms : n ≤ length t.denoms

pub roomy : (n : ℕ) (t : ItemTable) → (n ≤ length t.kinds) × (n ≤ length t.cents) × (n ≤ length t.numers) × (n ≤ length t.denoms) → Roomy n t
roomy n t h = record { kinds = h.0; cents = h.1; numers = h.2; denoms = h.3 }

-- the items of the first n places
abbrev pub first : ℕ → ItemTable → List Item
first n t = items_of (take n t.kinds) (take n t.cents) (take n t.numers) (take n t.denoms)

module _ (n : ℕ) (t : ItemTable) (r : Roomy n t) where
  abbrev ks : List ℕ
  ks = take n t.kinds

  abbrev cs : List Float
  cs = take n t.cents

  abbrev ns : List ℕ
  ns = take n t.numers

  abbrev ds : List ℕ
  ds = take n t.denoms

  lk : length ks ≡ n
  lk = length-take-le n t.kinds r.kinds

  pub cents_same : length cs ≡ length ks
  cents_same = length-take-le n t.cents r.cents ∙ sym lk

  pub numers_same : length ns ≡ length ks
  numers_same = length-take-le n t.numers r.numers ∙ sym lk

  pub denoms_same : length ds ≡ length ks
  denoms_same = length-take-le n t.denoms r.denoms ∙ sym lk

  pub length_first : length (first n t) ≡ n
  length_first = length_items ks cs ns ds cents_same numers_same denoms_same ∙ lk

  pub first_at : (i : ℕ) → i < n → get_or (first n t) i no_item ≡ item_of (get_or t.kinds i 0) (get_or t.cents i nan) (get_or t.numers i 0) (get_or t.denoms i 0)
  first_at i h =
      item_at_law ks cs ns ds i cents_same numers_same denoms_same (omega (arith, lk, h))
      ∙ rw (get_or-take n t.kinds i 0 h, get_or-take n t.cents i nan h, get_or-take n t.numers i 0 h, get_or-take n t.denoms i 0 h)

-- ---- going over the table: `all` says of the places up to i whether their items can be used
pub record Gone (n : ℕ) (t : ItemTable) (all : Bool) (i : ℕ) : Type 0 where
  pub end : i ≤ n
  pub same : are_usable (first n t) ≡ (all && are_usable (drop i (first n t)))

module _ {n : ℕ} {t : ItemTable} {all : Bool} {i : ℕ} (r : Roomy n t) (s : Gone n t all i) where
  pub turn : i < n → {b : Bool} → b ≡ is_usable (item_of (get_or t.kinds i 0) (get_or t.cents i nan) (get_or t.numers i 0) (get_or t.denoms i 0)) → Gone n t (all && b) (i + 1)
  unfolding are_usable
  turn h {b} e =
      let l : i < length (first n t) = omega (arith, length_first n t r, h) in
      let next : are_usable (drop i (first n t)) ≡ (b && are_usable (drop (suc i) (first n t))) = rw (drop-cons (first n t) i no_item l, first_at n t r i h, e) in
      record { end = omega (arith, h); same = rw add-one (s.same ∙ ap (λ (x : Bool). all && x) next ∙ sym (and_assoc all b (are_usable (drop (suc i) (first n t))))) }

  pub finish : n ≤ i → all ≡ are_usable (first n t)
  unfolding are_usable
  finish h =
      let none : are_usable (drop i (first n t)) ≡ true = rw (drop_of_length-le (first n t) {i = i} (omega (arith, length_first n t r, h))) in
      sym (s.same ∙ ap (λ (x : Bool). all && x) none ∙ and-true all)

-- ---- the test in the code's steps
module _ (count : ℕ) (t : ItemTable) where
  pub kinds_short : length t.kinds ≤ count → false ≡ is_items count t
  kinds_short h = rw (le-ltb count (length t.kinds) h)

  module _ (k : count < length t.kinds) where
    pub cents_short : length t.cents ≤ count → false ≡ is_items count t
    cents_short h = rw (lt-ltb count (length t.kinds) k, le-ltb count (length t.cents) h)

    module _ (c : count < length t.cents) where
      pub numers_short : length t.numers ≤ count → false ≡ is_items count t
      numers_short h = rw (lt-ltb count (length t.kinds) k, lt-ltb count (length t.cents) c, le-ltb count (length t.numers) h)

      module _ (n : count < length t.numers) where
        pub denoms_short : length t.denoms ≤ count → false ≡ is_items count t
        denoms_short h = rw (lt-ltb count (length t.kinds) k, lt-ltb count (length t.cents) c, lt-ltb count (length t.numers) n, le-ltb count (length t.denoms) h)

        pub have_items_law : count < length t.denoms → have_items count t ≡ true
        have_items_law d = rw (lt-ltb count (length t.kinds) k, lt-ltb count (length t.cents) c, lt-ltb count (length t.numers) n, lt-ltb count (length t.denoms) d)

        pub items_test : count < length t.denoms → {b : Bool} → b ≡ are_usable (items_in count t) → b ≡ is_items count t
        items_test d e = rw (have_items_law d) e

-- ---- what it means
pub usable_at : (items : List Item) (i : ℕ) → are_usable items ≡ true → i < length items → is_usable (get_or items i no_item) ≡ true
unfolding are_usable
usable_at [] i h l = absurd (not-suc-le-zero l)
usable_at (x ∷ items) zero h l = (both (is_usable x) (are_usable items) h).0
usable_at (x ∷ items) (suc i) h l = usable_at items i (both (is_usable x) (are_usable items) h).1 (le_of_suc-le-suc l)

at_usable : (items : List Item) → ((i : ℕ) → i < length items → is_usable (get_or items i no_item) ≡ true) → are_usable items ≡ true
unfolding are_usable
at_usable [] h = refl
at_usable (x ∷ items) h = rw (h 0 (omega arith)) (at_usable items (λ i l. h (suc i) (suc-le-suc l)))

module _ (count : ℕ) (t : ItemTable) where
  -- "the count fits them, items are usable"
  pub items_are : (is_items count t ≡ true) ↔ Items count t
  items_are = (
    (λ h.
        let all = both (have_items count t) (are_usable (items_in count t)) h in
        let third = both (ltb count (length t.kinds) && ltb count (length t.cents) && ltb count (length t.numers)) (ltb count (length t.denoms)) all.0 in
        let second = both (ltb count (length t.kinds) && ltb count (length t.cents)) (ltb count (length t.numers)) third.0 in
        let one = both (ltb count (length t.kinds)) (ltb count (length t.cents)) second.0 in
        record {
          kinds_room = ltb-true count (length t.kinds) one.0;
          cents_room = ltb-true count (length t.cents) one.1;
          numers_room = ltb-true count (length t.numers) second.1;
          denoms_room = ltb-true count (length t.denoms) third.1;
          usable = λ i l. usable_at (items_in count t) i all.1 l;
        }),
    (λ s. rw (have_items_law count t s.kinds_room s.cents_room s.numers_room s.denoms_room) (at_usable (items_in count t) s.usable)),
  )

  module _ (h : is_items count t ≡ true) where
    pub items_roomy : Roomy (count + 1) t
    items_roomy = let s = items_are.0 h in record { kinds = omega (arith, s.kinds_room); cents = omega (arith, s.cents_room); numers = omega (arith, s.numers_room); denoms = omega (arith, s.denoms_room) }

    pub items_usable : are_usable (items_in count t) ≡ true
    items_usable = (both (have_items count t) (are_usable (items_in count t)) h).1
