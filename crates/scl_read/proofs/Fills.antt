-- The laws of the second pass: what stands in the columns after each item. Assumes nothing.
use Rattle.base.specs.declared.Reason.{Reason}
use Rattle.std.specs.Prelude.{Err, Ok, Result}
use mathlib.Core.Path.{◌≡◌, refl, sym, ◌∙◌, ap}
use mathlib.Core.Bool.{Bool, true, false}
use mathlib.Core.List.{List, [], ◌∷◌, ◌++◌, append_assoc, append-nil}
use Prim.Native.Nat.{ℕ, zero, suc, ◌+◌, ◌-◌, ◌<◌}
use native.Mathlib.Omega.{arith}
use lib.Dec.{ltb}
use lib.ListN.{length, length-append, length-set}
use borrow.Author.Tests.{lt-ltb, ltb-true}
use Rattle.base.specs.Said.{pick}
use Rattle.listing.specs.Reader.{given_after}
use Rattle.scl.proofs.Table.{Roomy, first}
use Rattle.scl.proofs.Writing.{first_written}
use Rattle.scl.specs.Table.{ItemTable, items_of, implicit, written_at}
use Rattle.scl.specs.declared.Item.{Item}
use Rattle.scl_read.specs.Tokens.{item_in}
use Rattle.text.specs.Reading.{Meaning, invalid, blank, comment, content}
use Rattle.scl_read.specs.Reader.{found_item, found_in, listed, given_from, written_from}
use Rattle.scl_read.specs.declared.line.Found.{Found}
use Rattle.scl_read.specs.declared.line.Found.TheVariants as found

-- ONE ITEM MORE, after those that are written
pub written_snoc : (t : ItemTable) (k : ℕ) (xs : List Item) (y : Item) → written_from t k (xs ++ y ∷ []) ≡ written_at (written_from t k xs) (k + length xs) y
unfolding written_from
written_snoc t k [] y = let z : k + 0 ≡ k = omega arith in rw z
written_snoc t k (x ∷ xs) y = let z : k + 1 + length xs ≡ k + suc (length xs) = omega arith in written_snoc (written_at t k x) (k + 1) xs y ∙ ap (λ n. written_at (written_from (written_at t k x) (k + 1) xs) n y) z

-- writing changes no length
pub record SameLengths (t u : ItemTable) : Type 0 where
  pub kinds : length t.kinds ≡ length u.kinds
  pub cents : length t.cents ≡ length u.cents
  pub numers : length t.numers ≡ length u.numers
  pub denoms : length t.denoms ≡ length u.denoms

pub same_lengths : (t : ItemTable) (k : ℕ) (i : Item) {u v : ItemTable} → v ≡ written_at t k i → SameLengths t u → SameLengths v u
same_lengths t k i e s = record {
  kinds = ap (λ x. length x.kinds) e ∙ length-set t.kinds k _ ∙ s.kinds;
  cents = ap (λ x. length x.cents) e ∙ length-set t.cents k _ ∙ s.cents;
  numers = ap (λ x. length x.numers) e ∙ length-set t.numers k _ ∙ s.numers;
  denoms = ap (λ x. length x.denoms) e ∙ length-set t.denoms k _ ∙ s.denoms;
}

pub lengths_roomy : {n : ℕ} {t u : ItemTable} → SameLengths t u → Roomy n u → Roomy n t
lengths_roomy s r = record {
  kinds = omega (arith, s.kinds, r.kinds);
  cents = omega (arith, s.cents, r.cents);
  numers = omega (arith, s.numers, r.numers);
  denoms = omega (arith, s.denoms, r.denoms);
}

pub lengths_same : (t : ItemTable) → SameLengths t t
lengths_same t = record { kinds = refl; cents = refl; numers = refl; denoms = refl }

-- place 0, and what is written after it
pub written_start : (t : ItemTable) {u : ItemTable} (xs : List Item) → u ≡ written_at t 0 implicit → written_from u 1 xs ≡ written_from t 0 (implicit ∷ xs)
unfolding written_from
written_start t xs e = rw e

-- WHAT IS WRITTEN IS READ BACK
written_first : (t : ItemTable) (k : ℕ) (xs : List Item) → Roomy (k + length xs) t → first (k + length xs) (written_from t k xs) ≡ first k t ++ xs
unfolding written_from
written_first t k [] r = let z : k + 0 ≡ k = omega arith in rw (z, append-nil (first k t))
written_first t k (x ∷ xs) r =
    let z : k + suc (length xs) ≡ k + 1 + length xs = omega arith in
    let one : suc k ≡ k + 1 = omega arith in
    let s : SameLengths (written_at t k x) t = same_lengths t k x refl (lengths_same t) in
    let m = written_first (written_at t k x) (k + 1) xs (lengths_roomy s (rw (sym z) r)) in
    let f : first (k + 1) (written_at t k x) ≡ first k t ++ x ∷ [] =
    rw (sym one) (first_written k t x (record { kinds = omega (arith, r.kinds); cents = omega (arith, r.cents); numers = omega (arith, r.numers); denoms = omega (arith, r.denoms) })) in
    rw z (m ∙ ap (λ (l : List Item). l ++ xs) f ∙ append_assoc (first k t) (x ∷ []) xs)

pub written_items : (t : ItemTable) (xs : List Item) → Roomy (length xs) t → first (length xs) (written_from t 0 xs) ≡ xs
unfolding items_of
written_items t xs r = let z : 0 + length xs ≡ length xs = omega arith in rw z at (written_first t 0 xs (rw z r))

pub written_lengths : (t : ItemTable) (k : ℕ) (xs : List Item) → SameLengths (written_from t k xs) t
unfolding written_from
written_lengths t k [] = lengths_same t
written_lengths t k (x ∷ xs) =
    let s = written_lengths (written_at t k x) (k + 1) xs in
    let o : SameLengths (written_at t k x) t = same_lengths t k x refl (lengths_same t) in
    record { kinds = s.kinds ∙ o.kinds; cents = s.cents ∙ o.cents; numers = s.numers ∙ o.numers; denoms = s.denoms ∙ o.denoms }

-- a required line is one of some
pub required_some : (n : ℕ) (m : Meaning) → found.Required ≡ found_in n m → 0 < n
required_some n invalid e = let z : ◌≡◌ {A = ℕ} 0 1 = cc in absurd (omega arith)
required_some n blank e = let z : ◌≡◌ {A = ℕ} 0 1 = cc in absurd (omega arith)
required_some n comment e = let z : ◌≡◌ {A = ℕ} 0 1 = cc in absurd (omega arith)
required_some n (content m t) e = go (ltb 0 n) refl (item_in t) e
  where
    go : (b : Bool) → ltb 0 n ≡ b → (r : (Result Item Reason)) → found.Required ≡ pick b found.Required (found_item r) → 0 < n
    go true p r q = ltb-true 0 n p
    go false p (Ok x) q = let z : ◌≡◌ {A = ℕ} 0 1 = cc in absurd (omega arith)
    go false p (Err k) q = let z : ◌≡◌ {A = ℕ} 0 1 = cc in absurd (omega arith)

-- what is given with one line more, by what the line gives
abbrev with_found : Found → ℕ → List Meaning → List Item
with_found (found.Is e) n ms = e ∷ given_from n ms
with_found found.Required n ms = given_from (n - 1) ms
with_found found.Nothing n ms = given_from n ms

given_turn : (n : ℕ) (m : Meaning) (ms : List Meaning) → given_from n (m ∷ ms) ≡ with_found (found_in n m) n ms
unfolding given_after
given_turn n invalid ms = refl
given_turn n blank ms = refl
given_turn n comment ms = refl
given_turn (suc n) (content m t) ms = let z : suc n - 1 ≡ n = omega arith in rw (lt-ltb 0 (suc n) (omega arith), z)
given_turn zero (content m t) ms = go (item_in t)
  where
    go : (r : (Result Item Reason)) → listed r ++ given_from 0 ms ≡ with_found (found_item r) 0 ms
    go (Ok e) = refl
    go (Err n) = refl

-- THE SECOND PASS ON LISTS: of what the lines say, ms, `rest` is left, with `left` required lines in it; the items `done` stand in the
-- table from place 1 on, and n is the next place
pub record Filled (ms : List Meaning) (old : ItemTable) (left : ℕ) (rest : List Meaning) (t : ItemTable) (n : ℕ) : Type 0 where
  pub done : List Item
  pub whole : given_from 2 ms ≡ done ++ given_from left rest
  pub count : n ≡ 1 + length done
  pub table : t ≡ written_from old 1 done

module _ (ms : List Meaning) (old : ItemTable) where
  pub filled_none : Filled ms old 2 ms old 1
  unfolding written_from
  filled_none = record { done = []; whole = refl; count = refl; table = refl }

  module _ {left : ℕ} {rest : List Meaning} {t : ItemTable} {n : ℕ} (f : Filled ms old left rest t n) where
    pub filled_end : rest ≡ [] → t ≡ written_from old 1 (given_from 2 ms)
    unfolding given_after
    filled_end q =
        let e : given_from 2 ms ≡ f.done = f.whole ∙ rw q (append-nil f.done) in
        rw e f.table

    module _ {m : Meaning} {rest' : List Meaning} (q : rest ≡ m ∷ rest') {x : Found} (p : x ≡ found_in left m) where
      left_turn : {y : Found} → x ≡ y → given_from 2 ms ≡ f.done ++ with_found y left rest'
      left_turn g = f.whole ∙ ap (λ (l : List Item). f.done ++ l) (ap (given_from left) q ∙ given_turn left m rest' ∙ ap (λ z. with_found z left rest') (sym p ∙ g))

      pub filled_nothing : x ≡ found.Nothing → Filled ms old left rest' t n
      filled_nothing g = record { done = f.done; whole = left_turn g; count = f.count; table = f.table }

      pub filled_required : x ≡ found.Required → Filled ms old (left - 1) rest' t n
      filled_required g = record { done = f.done; whole = left_turn g; count = f.count; table = f.table }

      module _ {i : Item} (g : x ≡ found.Is i) where
        pub filled_place : n < length (implicit ∷ given_from 2 ms)
        filled_place = omega (arith, f.count, ap length (left_turn g), length-append f.done (i ∷ given_from left rest'))

        pub item_place : SameLengths t old → Roomy (length (implicit ∷ given_from 2 ms)) old → (n < length t.kinds) × (n < length t.cents) × (n < length t.numers) × (n < length t.denoms)
        item_place s r =
            let o = lengths_roomy s r in
            let h = filled_place in
            (omega (arith, h, o.kinds), omega (arith, h, o.cents), omega (arith, h, o.numers), omega (arith, h, o.denoms))

        pub filled_item : {u : ItemTable} → u ≡ written_at t n i → Filled ms old left rest' u (n + 1)
        filled_item e = record {
          done = f.done ++ i ∷ [];
          whole = left_turn g ∙ sym (append_assoc f.done (i ∷ []) (given_from left rest'));
          count = omega (arith, f.count, length-append f.done (i ∷ []));
          table = e ∙ rw (f.count, f.table) (sym (written_snoc old 1 f.done i));
        }
