-- The laws of `scan` and `read_signed` along a slice: a turn of the loop, its ends, and the cases of a sign, as the code meets
-- them. Assumes nothing.
use Rattle.std.specs.Prelude.{Some, None, Option}
use mathlib.Core.Path.{◌≡◌, refl, sym, ap, ◌∙◌}
use mathlib.Core.List.{List, [], ◌∷◌}
use mathlib.Core.Bool.{Bool, true, false}
use Prim.Native.Nat.{ℕ, ◌+◌, ◌-◌, ◌*◌, ◌≤◌, ◌<◌}
use native.Mathlib.Numerals.{add-one}
use native.Mathlib.Omega.{arith}
use lib.Dec.{eqb}
use lib.ListN.{length, get_or, drop, drop_of_length-le, take}
use lib.Seq.{drop-cons, take-length}
use borrow.Author.Tests.{le-leb, lt-leb, eq-eqb, ne_eqb, eqb-true, eqb-false}
use Rattle.base.specs.Said.{pick}
use Rattle.integers.specs.Integer.{scan, magnitude_of, plus, minus, read_signed}
use Rattle.integers.specs.declared.Signed.{Signed}
use Rattle.integers.specs.Digits.{is_digit}

module _ (top acc : ℕ) (s : List ℕ) (i : ℕ) (h : i < length s) where
  pub scan_step : is_digit (get_or s i 0) ≡ true → scan top acc (drop i s) ≡ scan top (acc * 10 + (get_or s i 0 - 48)) (drop (i + 1) s)
  unfolding scan
  scan_step d = rw (drop-cons s i 0 h, add-one, d)

  pub scan_stop : is_digit (get_or s i 0) ≡ false → scan top acc (drop i s) ≡ None
  unfolding scan
  scan_stop d = rw (drop-cons s i 0 h, d)

pick_same : (t : Bool) {m n : (Option ℕ)} → m ≡ n → pick t m n ≡ n
pick_same true e = e
pick_same false e = refl

-- a number over the limit stays over it
pub scan_over : (top acc : ℕ) (s : List ℕ) → top < acc → scan top acc s ≡ None
unfolding scan
scan_over top acc [] h = rw (lt-leb acc top h)
scan_over top acc (b ∷ s) h = pick_same (is_digit b) (scan_over top (acc * 10 + (b - 48)) s (omega arith))

pub scan_end : (top acc : ℕ) (s : List ℕ) (i : ℕ) → length s ≤ i → acc ≤ top → scan top acc (drop i s) ≡ Some acc
unfolding scan
scan_end top acc s i e h = rw (drop_of_length-le s e, le-leb acc top h)

pub mag_none : (top : ℕ) (s : List ℕ) (i : ℕ) → length s ≤ i → magnitude_of top (drop i s) ≡ None
unfolding magnitude_of
mag_none top s i e = rw (drop_of_length-le s e)

pub mag_scan : (top : ℕ) (s : List ℕ) (i : ℕ) → i < length s → magnitude_of top (drop i s) ≡ scan top 0 (drop i s)
unfolding magnitude_of
mag_scan top s i h = rw (drop-cons s i 0 h)

-- the cases of `read_signed`: x is the first byte of s, m what a call of `read_magnitude` answered, r what its sign made of it
pub int_none : (sign : Bool) (top : ℕ) (s : List ℕ) {r : Option Signed} → length s ≤ 0 → r ≡ None → r ≡ read_signed sign top s
unfolding read_signed
int_none sign top [] h e = e
int_none sign top (b ∷ s) h e = absurd (omega arith)

-- the bytes after the first
rest : List ℕ → List ℕ
rest s = take (length s - 1) (drop 1 s)

rest_is : (b : ℕ) (s : List ℕ) → rest (b ∷ s) ≡ s
unfolding rest
rest_is b s = let e : length (b ∷ s) - 1 ≡ length s = omega arith in rw e (take-length s)

module _ (sign : Bool) (top : ℕ) where
  pub int_unsigned : (s : List ℕ) {x : ℕ} → 0 < length s → x ≡ get_or s 0 0 → x ≡ 45 → sign ≡ false → None ≡ read_signed sign top s
  unfolding read_signed
  int_unsigned [] h p e g = absurd (omega arith)
  int_unsigned (b ∷ s) h p e g = rw (eq-eqb b 45 (sym p ∙ e), g)

  module _ {m : (Option ℕ)} {r : (Option Signed)} where
    pub int_minus : (s : List ℕ) {x : ℕ} → 0 < length s → x ≡ get_or s 0 0 → x ≡ 45 → sign ≡ true → m ≡ magnitude_of top (take (length s - 1) (drop 1 s)) → r ≡ minus m → r ≡ read_signed sign top s
    unfolding read_signed rest
    int_minus [] h i e g p q = absurd (omega arith)
    int_minus (b ∷ s) h i e g p q = let t : take (length (b ∷ s) - 1) s ≡ s = rest_is b s in rw (eq-eqb b 45 (sym i ∙ e), g) (q ∙ ap minus (p ∙ ap (magnitude_of top) t))

    pub int_plus : (s : List ℕ) {x : ℕ} → 0 < length s → x ≡ get_or s 0 0 → (x ≡ 45 → ⊥) → x ≡ 43 → m ≡ magnitude_of (top - 1) (take (length s - 1) (drop 1 s)) → r ≡ plus m → r ≡ read_signed sign top s
    unfolding read_signed rest
    int_plus [] h i f e p q = absurd (omega arith)
    int_plus (b ∷ s) h i f e p q =
        let t : take (length (b ∷ s) - 1) s ≡ s = rest_is b s in
        rw (ne_eqb b 45 (λ k. f (i ∙ k)), eq-eqb b 43 (sym i ∙ e)) (q ∙ ap plus (p ∙ ap (magnitude_of (top - 1)) t))

    pub int_plain : (s : List ℕ) {x : ℕ} → 0 < length s → x ≡ get_or s 0 0 → (x ≡ 45 → ⊥) → (x ≡ 43 → ⊥) → m ≡ magnitude_of (top - 1) s → r ≡ plus m → r ≡ read_signed sign top s
    unfolding read_signed
    int_plain [] h i f e p q = absurd (omega arith)
    int_plain (b ∷ s) h i f e p q = rw (ne_eqb b 45 (λ k. f (i ∙ k)), ne_eqb b 43 (λ k. e (i ∙ k)), ← p) q

-- what `is_empty` tells of a row
pub empty_length : (s : List ℕ) {r : Bool} → r ≡ eqb (length s) 0 → r ≡ true → length s ≤ 0
empty_length s p q = let e = eqb-true (length s) 0 (sym p ∙ q) in omega arith

pub full_length : (s : List ℕ) {r : Bool} → r ≡ eqb (length s) 0 → r ≡ false → 0 < length s
full_length s p q = let e = eqb-false (length s) 0 (sym p ∙ q) in omega arith
