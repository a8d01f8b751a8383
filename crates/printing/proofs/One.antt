-- ONE TEXT: a number with d decimals has one text, so that the text written is all that document 01 allows. Assumes nothing.
use mathlib.Core.Path.{◌≡◌, refl, sym, ap, ◌∙◌}
use mathlib.Core.Bool.{Bool}
use mathlib.Core.List.{List, [], ◌∷◌, ◌++◌}
use mathlib.Core.Logic.{◌⊎◌, inl, inr, ◌↔◌}
use Prim.Native.Nat.{ℕ, suc, ◌+◌, ◌-◌, ◌*◌, ◌/◌, ◌%◌, ◌^◌, ◌≤◌, ◌<◌}
use native.Mathlib.Nat.{mul-le-mul_right, one-mul, pow-succ', lt_of_not-le, not-le_of_lt, le_trans, le_antisymm}
use native.Mathlib.Omega.{arith}
use lib.Dec.{T}
use lib.ListN.{length, get_or}
use lib.Arith.{digits_lt, digits_div, digits_mod}
use lib.Ieee.{Float}
use Rattle.floats.specs.Units.{negative}
use Rattle.integers.specs.Digits.{AllDigits, decimal}
use Rattle.printing.specs.PrintText.{limited, scaled_of, sign_text, point_text, text_of}
use Rattle.printing.specs.PrintForm.{FixedText, Printed}
use Rattle.integers.proofs.Tens.{ten_le}
use Rattle.printing.proofs.Form.{decimal_append, printed}

-- k digits write less than 10^k
decimal_lt : (s : List ℕ) → AllDigits s → decimal s < 10 ^ length s
decimal_lt [] a = omega arith
decimal_lt (b ∷ s) a = rw (pow-succ' 10 (length s)) (digits_lt {q = b - 48} {m = 10} (omega (arith, a.0)) (decimal_lt s a.1))

-- a row of digits is known by its length and its number
digits_same : (s t : List ℕ) → AllDigits s → AllDigits t → length s ≡ length t → decimal s ≡ decimal t → s ≡ t
digits_same [] [] a b l e = refl
digits_same [] (y ∷ t) a b l e = absurd (omega arith)
digits_same (x ∷ s) [] a b l e = absurd (omega arith)
digits_same (x ∷ s) (y ∷ t) a b l e =
    let k : length s ≡ length t = omega arith in
    let g : (x - 48) * 10 ^ length s + decimal s ≡ (y - 48) * 10 ^ length s + decimal t = e ∙ ap (λ (i : ℕ). (y - 48) * 10 ^ i + decimal t) (sym k) in
    let u : decimal t < 10 ^ length s = rw k (decimal_lt t b.1) in
    let p : x - 48 ≡ y - 48 = sym (digits_div (x - 48) (decimal_lt s a.1)) ∙ ap (λ (n : ℕ). n / 10 ^ length s) g ∙ digits_div (y - 48) u in
    let q : decimal s ≡ decimal t = sym (digits_mod (x - 48) (decimal_lt s a.1)) ∙ ap (λ (n : ℕ). n % 10 ^ length s) g ∙ digits_mod (y - 48) u in
    let z : x ≡ y = omega (arith, p, a.0, b.0) in
    ap (λ (i : ℕ). i ∷ s) z ∙ ap (λ (r : List ℕ). y ∷ r) (digits_same s t a.1 b.1 k q)

-- a first digit that is not zero counts
lean_ge : (s : List ℕ) → AllDigits s → 1 < length s → (length s ≡ 1) ⊎ (get_or s 0 0 ≡ 48 → ⊥) → 10 ^ (length s - 1) ≤ decimal s
lean_ge [] a h l = absurd (omega arith)
lean_ge (b ∷ s) a h (inl e) = absurd (omega arith)
lean_ge (b ∷ s) a h (inr g) =
    let z : suc (length s) - 1 ≡ length s = omega arith in
    let p : 1 ≤ b - 48 = omega (arith, a.0.0, g) in
    rw z (omega (arith, mul-le-mul_right (10 ^ length s) p, one-mul (10 ^ length s)))

-- so no text of the same number is shorter
no_shorter : (s t : List ℕ) → AllDigits s → AllDigits t → 0 < length s → (length t ≡ 1) ⊎ (get_or t 0 0 ≡ 48 → ⊥) → decimal s ≡ decimal t → length t ≤ length s
no_shorter s t a b h l e =
    let k : length t < length s + 1 = lt_of_not-le (λ (g : length s + 1 ≤ length t).
    not-le_of_lt (decimal_lt s a) (le_trans (ten_le (length s) (length t - 1) (omega arith)) (rw e (lean_ge t b (omega arith) l)))) in
    omega arith

-- the whole part and the decimals, from the number
pub one_text : (d : ℕ) (minus plus : Bool) (n : ℕ) (t u : List ℕ) → FixedText d minus plus n t → FixedText d minus plus n u → t ≡ u
one_text d minus plus n t u f g =
    let e : decimal f.whole * 10 ^ d + decimal f.part ≡ decimal g.whole * 10 ^ d + decimal g.part = sums f ∙ sym (sums g) in
    let a : decimal f.part < 10 ^ d = part_lt f in
    let b : decimal g.part < 10 ^ d = part_lt g in
    let w : decimal f.whole ≡ decimal g.whole = sym (digits_div (decimal f.whole) a) ∙ ap (λ (i : ℕ). i / 10 ^ d) e ∙ digits_div (decimal g.whole) b in
    let p : decimal f.part ≡ decimal g.part = sym (digits_mod (decimal f.whole) a) ∙ ap (λ (i : ℕ). i % 10 ^ d) e ∙ digits_mod (decimal g.whole) b in
    let l : length f.whole ≡ length g.whole = le_antisymm (no_shorter g.whole f.whole g.first f.first g.some f.lean (sym w)) (no_shorter f.whole g.whole f.first g.first f.some g.lean w) in
    let x : f.whole ≡ g.whole = digits_same f.whole g.whole f.first g.first l w in
    let y : f.part ≡ g.part = digits_same f.part g.part f.second g.second (f.places ∙ sym g.places) p in
    f.text
    ∙ ap (λ (r : List ℕ). sign_text minus plus ++ (r ++ (point_text d ++ f.part))) x
    ∙ ap (λ (r : List ℕ). sign_text minus plus ++ (g.whole ++ (point_text d ++ r))) y
    ∙ sym g.text
  where
    sums : {v : List ℕ} (h : FixedText d minus plus n v) → decimal h.whole * 10 ^ d + decimal h.part ≡ n
    sums h = ap (λ (i : ℕ). decimal h.whole * 10 ^ i + decimal h.part) (sym h.places) ∙ sym (decimal_append h.whole h.part) ∙ h.value

    part_lt : {v : List ℕ} (h : FixedText d minus plus n v) → decimal h.part < 10 ^ d
    part_lt h = rw (← h.places) (decimal_lt h.part h.second)

-- a text is x with d decimals exactly if it is the one that is written
pub writes : (d : ℕ) (plus : Bool) (x : Float) → T (limited x) → (t : List ℕ) → (t ≡ text_of d plus x) ↔ Printed d plus x t
writes d plus x h t = (
  λ e. rw e (printed d plus x h),
  λ p. one_text d (negative x) plus (scaled_of d x) t (text_of d plus x) p.is (printed d plus x h).is,
)
