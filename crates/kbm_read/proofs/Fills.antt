-- The laws of the second pass: what stands in the table after each entry, and after the padding. Assumes nothing.
use Rattle.std.specs.Prelude.{None, Some, Option}
use mathlib.Core.Path.{◌≡◌, refl, sym, ◌∙◌, ap}
use mathlib.Core.Bool.{Bool, true, false}
use mathlib.Core.List.{List, [], ◌∷◌, ◌++◌, append_assoc, append-nil}
use Prim.Native.Nat.{ℕ, zero, suc, ◌+◌, ◌-◌, ◌≤◌, ◌<◌}
use native.Mathlib.Omega.{arith}
use lib.Dec.{ltb}
use lib.IntN.{ℤ}
use lib.ListN.{length, set, length-append}
use borrow.Author.Tests.{lt-ltb, ltb-true}
use Rattle.base.specs.Said.{pick}
use Rattle.base.specs.Tables.{over}
use Rattle.kbm.proofs.Table.{length_numbers}
use Rattle.kbm.specs.Table.{unmapped, number_of, numbers_of}
use Rattle.listing.specs.Reader.{given_after}
use Rattle.text.specs.Reading.{Meaning, invalid, blank, comment, content}
use Rattle.kbm_read.specs.Language.{blanks}
use Rattle.kbm_read.specs.Reader.{entry_in, found_entry, found_in, listed, given_from, padded}
use Rattle.kbm_read.specs.declared.line.Found.{Found}
use Rattle.kbm_read.specs.declared.line.Found.TheVariants as found

-- ONE ENTRY MORE, after those that are written
pub over_snoc : {A : Type 0} (d xs : List A) (y : A) → length xs < length d → set (over d xs) (length xs) y ≡ over d (xs ++ y ∷ [])
over_snoc [] xs y h = absurd (omega arith)
over_snoc (x ∷ d) [] y h = refl
over_snoc (x ∷ d) (a ∷ xs) y h = ap (λ l. a ∷ l) (over_snoc d xs y (omega arith))

pub numbers_append : (es fs : List (Option ℤ)) → numbers_of (es ++ fs) ≡ numbers_of es ++ numbers_of fs
unfolding numbers_of
numbers_append [] fs = refl
numbers_append (e ∷ es) fs = ap (λ l. number_of e ∷ l) (numbers_append es fs)

numbers_one : (e : (Option ℤ)) → numbers_of (e ∷ []) ≡ number_of e ∷ []
unfolding numbers_of
numbers_one e = refl

-- a required line is one of some
pub required_some : (n : ℕ) (m : Meaning) → found.Required ≡ found_in n m → 0 < n
required_some n invalid e = let z : ◌≡◌ {A = ℕ} 0 1 = cc in absurd (omega arith)
required_some n blank e = let z : ◌≡◌ {A = ℕ} 0 1 = cc in absurd (omega arith)
required_some n comment e = let z : ◌≡◌ {A = ℕ} 0 1 = cc in absurd (omega arith)
required_some n (content m t) e = go (ltb 0 n) refl (entry_in t) e
  where
    go : (b : Bool) → ltb 0 n ≡ b → (r : (Option (Option ℤ))) → found.Required ≡ pick b found.Required (found_entry r) → 0 < n
    go true p r q = ltb-true 0 n p
    go false p (Some x) q = let z : ◌≡◌ {A = ℕ} 0 1 = cc in absurd (omega arith)
    go false p None q = let z : ◌≡◌ {A = ℕ} 0 1 = cc in absurd (omega arith)

-- what is given with one line more, by what the line gives
abbrev with_found : Found → ℕ → List Meaning → List (Option ℤ)
with_found (found.Is e) n ms = e ∷ given_from n ms
with_found found.Required n ms = given_from (n - 1) ms
with_found found.Nothing n ms = given_from n ms

given_turn : (n : ℕ) (m : Meaning) (ms : List Meaning) → given_from n (m ∷ ms) ≡ with_found (found_in n m) n ms
unfolding given_after
given_turn n invalid ms = refl
given_turn n blank ms = refl
given_turn n comment ms = refl
given_turn (suc n) (content m t) ms = let z : suc n - 1 ≡ n = omega arith in rw (lt-ltb 0 (suc n) (omega arith), z)
given_turn zero (content m t) ms = go (entry_in t)
  where
    go : (r : (Option (Option ℤ))) → listed r ++ given_from 0 ms ≡ with_found (found_entry r) 0 ms
    go (Some e) = refl
    go None = refl

-- THE SECOND PASS ON LISTS: of what the lines say, ms, `rest` is left, with `left` required lines in it; the entries `done`, n of
-- them, stand in the table, which was `old`
pub record Filled (ms : List Meaning) (old : List ℤ) (left : ℕ) (rest : List Meaning) (map : List ℤ) (n : ℕ) : Type 0 where
  pub done : List (Option ℤ)
  pub whole : given_from 7 ms ≡ done ++ given_from left rest
  pub count : n ≡ length done
  pub table : map ≡ over old (numbers_of done)

module _ (ms : List Meaning) (old : List ℤ) where
  pub filled_none : Filled ms old 7 ms old 0
  unfolding numbers_of
  filled_none = record { done = []; whole = refl; count = refl; table = refl }

  module _ {left : ℕ} {rest : List Meaning} {map : List ℤ} {n : ℕ} (f : Filled ms old left rest map n) where
    pub filled_end : rest ≡ [] → (n ≡ length (given_from 7 ms)) × (map ≡ over old (numbers_of (given_from 7 ms)))
    unfolding given_after
    filled_end q =
        let e : given_from 7 ms ≡ f.done = f.whole ∙ rw q (append-nil f.done) in
        (rw e f.count, rw e f.table)

    module _ {m : Meaning} {rest' : List Meaning} (q : rest ≡ m ∷ rest') {x : Found} (p : x ≡ found_in left m) where
      left_turn : {y : Found} → x ≡ y → given_from 7 ms ≡ f.done ++ with_found y left rest'
      left_turn g = f.whole ∙ ap (λ (l : List (Option ℤ)). f.done ++ l) (ap (given_from left) q ∙ given_turn left m rest' ∙ ap (λ z. with_found z left rest') (sym p ∙ g))

      pub filled_nothing : x ≡ found.Nothing → Filled ms old left rest' map n
      filled_nothing g = record { done = f.done; whole = left_turn g; count = f.count; table = f.table }

      pub filled_required : x ≡ found.Required → Filled ms old (left - 1) rest' map n
      filled_required g = record { done = f.done; whole = left_turn g; count = f.count; table = f.table }

      module _ {e : (Option ℤ)} (g : x ≡ found.Is e) (fits : length (given_from 7 ms) ≤ length old) where
        pub filled_place : n < length old
        filled_place = omega (arith, f.count, ap length (left_turn g), length-append f.done (e ∷ given_from left rest'))

        pub filled_entry : Filled ms old left rest' (set map n (number_of e)) (n + 1)
        filled_entry =
            let xs = numbers_of f.done in
            let i : n ≡ length xs = f.count ∙ sym (length_numbers f.done) in
            let place = filled_place in
            let t : set map n (number_of e) ≡ over old (xs ++ number_of e ∷ []) = rw (f.table, i) (over_snoc old xs (number_of e) (omega arith)) in
            record {
              done = f.done ++ e ∷ [];
              whole = left_turn g ∙ sym (append_assoc f.done (e ∷ []) (given_from left rest'));
              count = omega (arith, f.count, length-append f.done (e ∷ []));
              table = t ∙ ap (over old) (sym (numbers_append f.done (e ∷ []) ∙ ap (λ l. xs ++ l) (numbers_one e)));
            }

-- THE PADDING
pub pad_end : (to i : ℕ) (map : List ℤ) → to ≤ i → padded (to - i) i map ≡ map
unfolding padded
pad_end to i map h = let e : to - i ≡ 0 = omega arith in rw e

pub pad_step : (to i : ℕ) (map : List ℤ) → i < to → padded (to - i) i map ≡ padded (to - (i + 1)) (i + 1) (set map i unmapped)
unfolding padded
pad_step to i map h = let e : to - i ≡ suc (to - (i + 1)) = omega arith in rw e

-- unmapped entries after those that are written
pub pad_over : (d xs : List ℤ) (c : ℕ) → length xs + c ≤ length d → padded c (length xs) (over d xs) ≡ over d (xs ++ numbers_of (blanks c))
unfolding padded blanks numbers_of
pad_over d xs zero h = rw (append-nil xs)
pad_over d xs (suc c) h =
    let ys = xs ++ unmapped ∷ [] in
    let l : length xs + 1 ≡ length ys = omega (arith, length-append xs (unmapped ∷ [])) in
    let s : set (over d xs) (length xs) unmapped ≡ over d ys = over_snoc d xs unmapped (omega arith) in
    rw (s, l) (pad_over d ys c (omega arith)) ∙ ap (over d) (append_assoc xs (unmapped ∷ []) (numbers_of (blanks c)))
