-- The laws of a run of digits and of a word along a slice, as the code meets them: a turn of the loop, and its ends.
-- Assumes nothing.
use mathlib.Core.Path.{◌≡◌, refl, ap}
use mathlib.Core.List.{List, [], ◌∷◌}
use mathlib.Core.Bool.{Bool, true, false}
use Prim.Native.Nat.{ℕ, suc, ◌+◌, ◌-◌, ◌*◌, ◌^◌, ◌≤◌, ◌<◌}
use native.Mathlib.Numerals.{add-one}
use native.Mathlib.Omega.{arith}
use lib.ListN.{length, get_or, drop, drop_of_length-le}
use lib.Seq.{drop-cons}
use lib.Dec.{ltb, eqb}
use borrow.Author.Tests.{lt-ltb, le-ltb, ltb-true, eq-eqb, ne_eqb}
use Rattle.base.specs.Said.{pick}
use Rattle.numerals.specs.Scan.{grown_by, counted_by, digit_run_of, run_at, lowered, spelled, after_sign, after_dot, mark_at, exponent_at, after_part, number_at}
use Rattle.numerals.specs.declared.Run.{Run}
use Rattle.integers.specs.Digits.{is_digit}

-- a number stays below 10^18
pub grown_small : (n d : ℕ) → n < 10 ^ 18 → d ≤ 9 → grown_by n d < 10 ^ 18
grown_small n d h g = go (ltb n (10 ^ 17)) refl
  where
    go : (t : Bool) → ltb n (10 ^ 17) ≡ t → pick t (n * 10 + d) n < 10 ^ 18
    go true e = omega (arith, ltb-true n (10 ^ 17) e)
    go false e = h

-- a count grows by one at most
pub counted_le : (n d count : ℕ) → counted_by n d count ≤ count + 1
counted_le n d count = go (eqb (n + d) 0)
  where
    go : (t : Bool) → pick t count (count + 1) ≤ count + 1
    go true = omega arith
    go false = omega arith

module _ (n count : ℕ) (s : List ℕ) (i : ℕ) where
  pub run_step : i < length s → is_digit (get_or s i 0) ≡ true →
      digit_run_of n count i (drop i s) ≡ digit_run_of (grown_by n (get_or s i 0 - 48)) (counted_by n (get_or s i 0 - 48) count) (i + 1) (drop (i + 1) s)
  unfolding digit_run_of
  run_step h d = rw (drop-cons s i 0 h, d, add-one i)

  pub run_stop : i < length s → is_digit (get_or s i 0) ≡ false → digit_run_of n count i (drop i s) ≡ record { n = n; significant = count; at = i }
  unfolding digit_run_of
  run_stop h d = rw (drop-cons s i 0 h, d)

  pub run_end : length s ≤ i → digit_run_of n count i (drop i s) ≡ record { n = n; significant = count; at = i }
  unfolding digit_run_of
  run_end h = rw (drop_of_length-le s h)

-- a text of another length is not the word
pub spelled_length : (s w : List ℕ) → (length s ≡ length w → ⊥) → spelled s w ≡ false
unfolding spelled
spelled_length [] [] h = absurd (h refl)
spelled_length [] (c ∷ w) h = refl
spelled_length (b ∷ s) [] h = refl
spelled_length (b ∷ s) (c ∷ w) h = go (eqb (lowered b) c) (spelled_length s w (λ e. h (ap suc e)))
  where
    go : (t : Bool) → spelled s w ≡ false → pick t (spelled s w) false ≡ false
    go true e = e
    go false e = refl

module _ (s w : List ℕ) (i : ℕ) (from : ℕ) where
  pub spelled_step : from + i < length s → i < length w → lowered (get_or s (from + i) 0) ≡ get_or w i 0 →
      spelled (drop (from + i) s) (drop i w) ≡ spelled (drop (from + (i + 1)) s) (drop (i + 1) w)
  unfolding spelled
  spelled_step h g e =
      let z : from + (i + 1) ≡ suc (from + i) = omega arith in
      rw (drop-cons s (from + i) 0 h, drop-cons w i 0 g, eq-eqb _ _ e, z, add-one i)

  pub spelled_stop : from + i < length s → i < length w → (lowered (get_or s (from + i) 0) ≡ get_or w i 0 → ⊥) → spelled (drop (from + i) s) (drop i w) ≡ false
  unfolding spelled
  spelled_stop h g e = rw (drop-cons s (from + i) 0 h, drop-cons w i 0 g, ne_eqb _ _ e)

  pub spelled_end : length s ≤ from + i → length w ≤ i → spelled (drop (from + i) s) (drop i w) ≡ true
  unfolding spelled
  spelled_end h g = rw (drop_of_length-le s h, drop_of_length-le w g)

-- an exponent, from what the calls answered
module _ (s : List ℕ) (at : ℕ) {from : ℕ} {r : Run} (m : mark_at s at ≡ true) (f : from ≡ after_sign s (at + 1)) (e : r ≡ run_at s 0 0 from) where
  pub exponent_some : from < r.at → eqb r.at (length s) ≡ exponent_at s at
  exponent_some h = rw (m, ← f, ← e, lt-ltb _ _ h)

  pub exponent_none : r.at ≤ from → false ≡ exponent_at s at
  exponent_none h = rw (m, ← f, ← e, le-ltb _ _ h)

-- a number, from what the calls answered
pub number_is : (s : List ℕ) (negative : Bool) (from : ℕ) {w p : Run} {dot : ℕ} → w ≡ run_at s 0 0 from → dot ≡ after_dot s w.at →
    p ≡ run_at s w.n w.significant dot → after_part s negative (w.at - from) dot p ≡ number_at s negative from
number_is s negative from a b c = rw (c, b, a)
