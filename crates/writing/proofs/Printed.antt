-- What is printed, read again: an integer's text is an integer of that value, a text with three decimals is a decimal of the f64
-- nearest to them; and both are words. Assumes nothing.
use mathlib.Core.Path.{◌≡◌, refl, sym}
use mathlib.Core.Bool.{Bool, true, false}
use mathlib.Core.List.{List, [], ◌∷◌, ◌++◌}
use Prim.Native.Nat.{ℕ, zero, suc, ◌/◌, ◌%◌, ◌^◌, ◌≤◌, ◌<◌}
use native.Mathlib.Nat.{div-one}
use native.Mathlib.Omega.{arith}
use lib.Dec.{T, ltb, lit<, lit≤}
use lib.Signed.{mag}
use lib.IntN.{ℤ, pos, negsuc}
use lib.ListN.{length-append}
use lib.Ieee.{Float}
use Rattle.base.specs.Said.{pick}
use Rattle.floats.specs.Units.{negative}
use Rattle.utf8.specs.Characters.{Each}
use Rattle.decimals.specs.DecimalText.{DecimalText}
use Rattle.integers.specs.IntegerText.{Digits, IntText}
use Rattle.printing.specs.PrintForm.{FixedText}
use Rattle.printing.specs.PrintText.{limited, scaled_of, digits_of, width_of, sign_text, point_text, parts_text, integer_text, whole_text, text_of}
use Rattle.integers.proofs.Digits.{all_append}
use Rattle.integers.proofs.Theorems.{one_value}
use Rattle.printing.proofs.Form.{fixed_text_law, printed, reads_back}
use Rattle.printing.proofs.Texts.{length_digits}
use Rattle.writing.specs.Thousandths.{nearest_three}
use Rattle.writing.proofs.Plain.{Plain, Word, each_append}

-- every byte that is printed is plain
digits_plain : (k n : ℕ) → Each Plain (digits_of k n)
digits_plain zero n = tt
digits_plain (suc k) n = ((omega arith, omega arith), digits_plain k n)

sign_plain : (minus : Bool) → Each Plain (sign_text minus false)
sign_plain true = ((omega arith, omega arith), tt)
sign_plain false = tt

point_plain : (d : ℕ) → Each Plain (point_text d)
point_plain d = go (ltb 0 d)
  where
    go : (b : Bool) → Each Plain (pick b (46 ∷ []) [])
    go true = ((omega arith, omega arith), tt)
    go false = tt

-- and there is a digit
width_some : (n : ℕ) → 0 < width_of 18 n
width_some n = go (ltb n 10)
  where
    go : (b : Bool) → 0 < pick b 1 (suc (width_of 17 (n / 10)))
    go true = omega arith
    go false = omega arith

pub parts_word : (minus : Bool) (whole part d : ℕ) → Word (parts_text minus false whole (width_of 18 whole) part d)
parts_word minus whole part d =
    let w = digits_of (width_of 18 whole) whole in
    let p = digits_of d part in
    record {
      some = simp (length-append, length_digits) (omega (arith, width_some whole));
      each =
          each_append Plain (sign_text minus false) (w ++ (point_text d ++ p)) (sign_plain minus)
          (each_append Plain w (point_text d ++ p) (digits_plain (width_of 18 whole) whole)
          (each_append Plain (point_text d) p (point_plain d) (digits_plain d part)));
    }

pub whole_word : (z : ℤ) → Word (whole_text z)
whole_word (pos n) = parts_word false n 0 0
whole_word (negsuc n) = parts_word true (suc n) 0 0

pub three_word : (x : Float) → Word (text_of 3 false x)
three_word x = parts_word (negative x) (scaled_of 3 x / 10 ^ 3) (scaled_of 3 x % 10 ^ 3) 3

-- a printed integer is an integer of its value
pub integer_form : (minus : Bool) (n : ℕ) → n < 10 ^ 18 → FixedText 0 minus false n (integer_text minus n)
integer_form minus n h = let e = div-one n in rw e at (fixed_text_law 0 minus false n (rw e h))

module _ (n : ℕ) {t : List ℕ} (minus : Bool) (f : FixedText 0 minus false n t) where
  pub digits_of_law : Digits (f.whole ++ f.part) n
  digits_of_law =
      record {
        some = simp length-append (omega (arith, f.some));
        each = all_append f.whole f.part f.first f.second;
        writes = sym f.value;
      }

whole_reads : (signed : Bool) (top n : ℕ) → n < top → top < 10 ^ 18 → IntText signed top (whole_text (pos n)) (pos n)
whole_reads signed top n h l =
    let f = integer_form false n (omega arith) in
    IntText.plain n (rw f.text (digits_of_law n false f)) h refl

minus_reads : (top n : ℕ) → n < top → top < 10 ^ 18 → IntText true top (whole_text (negsuc n)) (negsuc n)
minus_reads top n h l =
    let f = integer_form true (suc n) (omega arith) in
    IntText.minus (f.whole ++ f.part) (suc n) refl f.text (digits_of_law (suc n) true f) (omega arith) refl

-- of a type without a sign
pub size_reads : (top n : ℕ) → n < top → top < 10 ^ 18 → IntText false top (whole_text (pos n)) (pos n)
size_reads = whole_reads false

-- and of one with a sign, from -top up to top
pub signed_reads : (top : ℕ) (z : ℤ) → mag z < top → top < 10 ^ 18 → IntText true top (whole_text z) z
signed_reads top (pos n) = whole_reads true top n
signed_reads top (negsuc n) = minus_reads top n

-- no other value is read from it, and none outside the type
wider : {signed : Bool} {top up : ℕ} {t : List ℕ} {z : ℤ} → top ≤ up → IntText signed top t z → IntText signed up t z
wider l (IntText.plain n d h e) = IntText.plain n d (omega arith) e
wider l (IntText.plus u n s d h e) = IntText.plus u n s d (omega arith) e
wider l (IntText.minus u n g s d h e) = IntText.minus u n g s d (omega arith) e

within : {signed : Bool} {top : ℕ} {t : List ℕ} {z : ℤ} → 0 < top → IntText signed top t z → mag z < top
within p (IntText.plain n d h e) = rw e h
within p (IntText.plus u n s d h e) = rw e h
within p (IntText.minus u zero g s d h e) = rw e p
within p (IntText.minus u (suc n) g s d h e) = rw e (omega arith)

pub reads_only : (top : ℕ) (z y : ℤ) → 0 < top → top ≤ 2 ^ 31 → mag z < 2 ^ 31 → IntText true top (whole_text z) y → (y ≡ z) × (mag z < top)
reads_only top z y p l m i =
    let e = one_value true (2 ^ 31) (lit< tt) (whole_text z) y z (wider l i) (signed_reads (2 ^ 31) z m (lit< tt)) in
    (e, rw e at (within p i))

-- a number printed with three decimals is a decimal: the f64 nearest to them
pub three_reads : (x : Float) → T (limited x) → scaled_of 3 x < 10 ^ 18 → DecimalText (text_of 3 false x) (nearest_three x)
three_reads x l h = reads_back 3 (negative x) false (scaled_of 3 x) (text_of 3 false x) (printed 3 false x l).is (lit≤ tt) h
