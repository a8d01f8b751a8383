-- THE THEOREMS OF PRINTED NUMBERS: the text that is written is the one that document 01 means, and read as a decimal it is
-- the f64 nearest to what it writes. Assumes nothing.
use mathlib.Core.Path.{◌≡◌, refl, sym, ap, ◌∙◌}
use mathlib.Core.Bool.{Bool, true, false}
use mathlib.Core.List.{List, [], ◌∷◌, ◌++◌, append-nil}
use mathlib.Core.Logic.{◌⊎◌, inl, inr}
use Prim.Native.Nat.{ℕ, zero, suc, ◌+◌, ◌-◌, ◌*◌, ◌/◌, ◌%◌, ◌^◌, ◌≤◌, ◌<◌}
use native.Mathlib.Nat.{pow-suc, pow-succ', mul_assoc, add-mul, div-add-mod', mod-lt, mod-eq_of_lt, div-lt_iff_lt-mul, le-div_iff_mul-le, lt_of_not-le, not-le_of_lt, mul-le-mul_right, one-mul, zero-mul}
use native.Mathlib.Omega.{arith}
use lib.Dec.{T, ltb, eqb, lit<}
use lib.ListN.{length, get_or, length-append}
use lib.Pow.{pow-add}
use lib.Arith.{mod-mul}
use lib.Ieee.{Float, round, binary64}
use borrow.Author.Tests.{lt-ltb, ltb-true, ltb-false, eqb-false}
use Rattle.base.specs.Said.{pick}
use Rattle.floats.specs.Units.{negative}
use Rattle.decimals.specs.DecimalText.{from_nonzero, OptionalSign, DottedDigits, Form, FloatText, Unsupported, DecimalText}
use Rattle.integers.specs.Digits.{AllDigits, decimal}
use Rattle.printing.specs.PrintText.{limited, scaled_of, digits_of, width_of, sign_text, point_text, fixed_text, text_of}
use Rattle.printing.specs.PrintForm.{FixedText, Printed}
use Rattle.integers.proofs.Digits.{all_append}
use Rattle.integers.proofs.Tens.{ten_pos, ten_le}
use Rattle.printing.proofs.Texts.{length_digits}
use Rattle.printing.proofs.Exact.{scaled_whole}

-- the last k digits of n write what n leaves by 10^k
digits_each : (k n : ℕ) → AllDigits (digits_of k n)
digits_each zero n = tt
digits_each (suc k) n = ((omega arith, omega arith), digits_each k n)

digits_value : (k n : ℕ) → decimal (digits_of k n) ≡ n % 10 ^ k
digits_value zero n = omega arith
digits_value (suc k) n =
    let a = n / 10 ^ k % 10 in
    let z : 48 + a - 48 ≡ a = omega arith in
    ap (λ (x : ℕ). x * 10 ^ length (digits_of k n) + decimal (digits_of k n)) z
    ∙ ap (λ (x : ℕ). a * 10 ^ x + decimal (digits_of k n)) (length_digits k n)
    ∙ ap (λ (x : ℕ). a * 10 ^ k + x) (digits_value k n)
    ∙ sym (mod-mul n {m = 10} {c = 10 ^ k} (lit< tt) (ten_pos k)) ∙ ap (λ (x : ℕ). n % x) (sym (pow-succ' 10 k))

pub decimal_append : (a b : List ℕ) → decimal (a ++ b) ≡ decimal a * 10 ^ length b + decimal b
decimal_append [] b = omega (arith, zero-mul (10 ^ length b))
decimal_append (c ∷ a) b =
    let p : (c - 48) * 10 ^ length (a ++ b) ≡ (c - 48) * 10 ^ length a * 10 ^ length b =
    ap (λ (x : ℕ). (c - 48) * 10 ^ x) (length-append a b) ∙ ap (λ (x : ℕ). (c - 48) * x) (pow-add 10 (length a) (length b)) ∙ sym (mul_assoc (c - 48) (10 ^ length a) (10 ^ length b)) in
    omega (arith, p, decimal_append a b, add-mul ((c - 48) * 10 ^ length a) (decimal a) (10 ^ length b))

-- a number has as many digits as are written, and the first is not zero unless it is the only one
width_enough : (f n : ℕ) → n < 10 ^ suc f → n < 10 ^ width_of f n
width_enough zero n h = h
width_enough (suc f) n h = go (ltb n 10) refl (width_enough f (n / 10))
  where
    go : (t : Bool) → ltb n 10 ≡ t → (n / 10 < 10 ^ suc f → n / 10 < 10 ^ width_of f (n / 10)) → n < 10 ^ pick t 1 (suc (width_of f (n / 10)))
    go true e ih = ltb-true n 10 e
    go false e ih =
        let k = ih ((div-lt_iff_lt-mul {y = 10 ^ suc f} (lit< tt)).1 (rw (pow-suc 10 (suc f)) at h)) in
        rw (pow-suc 10 (width_of f (n / 10))) (omega (arith, k))

width_some : (f n : ℕ) → 0 < width_of f n
width_some zero n = omega arith
width_some (suc f) n = go (ltb n 10)
  where
    go : (t : Bool) → 0 < pick t 1 (suc (width_of f (n / 10)))
    go true = omega arith
    go false = omega arith

-- the digits after the first
abbrev before : ℕ → ℕ
before k = k - 1

width_least : (f n : ℕ) → (width_of f n ≡ 1) ⊎ (10 ^ before (width_of f n) ≤ n)
width_least zero n = inl refl
width_least (suc f) n = go (ltb n 10) refl (width_of f (n / 10)) (width_least f (n / 10)) (width_some f (n / 10))
  where
    go : (t : Bool) → ltb n 10 ≡ t → (w : ℕ) → (w ≡ 1) ⊎ (10 ^ before w ≤ n / 10) → 0 < w → (pick t 1 (suc w) ≡ 1) ⊎ (10 ^ before (pick t 1 (suc w)) ≤ n)
    go true e w h p = inl refl
    go false e w (inl h) p = inr (rw h (ltb-false n 10 e))
    go false e zero (inr h) p = absurd (omega arith)
    go false e (suc w) (inr h) p =
        let z : suc (suc w) - 1 ≡ suc w = omega arith in
        let y : suc w - 1 ≡ w = omega arith in
        inr (rw (z, pow-suc 10 w) (omega (arith, rw y at h)))

lean_digits : (k n : ℕ) → (k ≡ 1) ⊎ (10 ^ before k ≤ n) → n < 10 ^ k → (length (digits_of k n) ≡ 1) ⊎ (get_or (digits_of k n) 0 0 ≡ 48 → ⊥)
lean_digits k n (inl e) h = inl (length_digits k n ∙ e)
lean_digits zero n (inr g) h = absurd (omega (arith, g, h))
lean_digits (suc k) n (inr g) h =
    let y : suc k - 1 ≡ k = omega arith in
    let l : 10 ^ k ≤ n = rw y at g in
    let a : 1 ≤ n / 10 ^ k = (le-div_iff_mul-le (ten_pos k)).1 (omega (arith, l, one-mul (10 ^ k))) in
    let b : n / 10 ^ k < 10 = (div-lt_iff_lt-mul {y = 10} (ten_pos k)).1 (omega (arith, rw (pow-succ' 10 k) at h)) in
    inr (λ e. omega (arith, e, a, b))

-- the text that is written is the one that is meant
pub fixed_text_law : (d : ℕ) (minus plus : Bool) (n : ℕ) → n / 10 ^ d < 10 ^ 18 → FixedText d minus plus n (fixed_text d minus plus n)
fixed_text_law d minus plus n h =
    let w = n / 10 ^ d in
    let k = width_of 18 w in
    let enough : w < 10 ^ k = width_enough 18 w (omega arith) in
    let p : n % 10 ^ d % 10 ^ d ≡ n % 10 ^ d = mod-eq_of_lt (mod-lt n (ten_pos d)) in
    record {
      whole = digits_of k w;
      part = digits_of d (n % 10 ^ d);
      text = refl;
      first = digits_each k w;
      second = digits_each d (n % 10 ^ d);
      some = rw (length_digits k w) (width_some 18 w);
      lean = lean_digits k w (width_least 18 w) enough;
      places = length_digits d (n % 10 ^ d);
      value =
          decimal_append (digits_of k w) (digits_of d (n % 10 ^ d))
          ∙ ap (λ (x : ℕ). x * 10 ^ length (digits_of d (n % 10 ^ d)) + decimal (digits_of d (n % 10 ^ d))) (digits_value k w ∙ mod-eq_of_lt enough)
          ∙ ap (λ (x : ℕ). w * 10 ^ x + decimal (digits_of d (n % 10 ^ d))) (length_digits d (n % 10 ^ d))
          ∙ ap (λ (x : ℕ). w * 10 ^ d + x) (digits_value d (n % 10 ^ d) ∙ p)
          ∙ div-add-mod' n (10 ^ d);
    }

pub printed : (d : ℕ) (plus : Bool) (x : Float) → T (limited x) → Printed d plus x (text_of d plus x)
printed d plus x h = record { is = fixed_text_law d (negative x) plus (scaled_of d x) (scaled_whole x d h) }

-- READ BACK
-- a number below 10^18 has at most 18 digits from the first nonzero one on
few_digits : (s : List ℕ) → AllDigits s → decimal s < 10 ^ 18 → length (from_nonzero s) ≤ 18
few_digits [] a h = omega arith
few_digits (b ∷ s) a h = go (eqb b 48) refl (few_digits s a.1)
  where
    go : (t : Bool) → eqb b 48 ≡ t → (decimal s < 10 ^ 18 → length (from_nonzero s) ≤ 18) → length (pick t (from_nonzero s) (b ∷ s)) ≤ 18
    go true e ih = ih (omega (arith, h))
    go false e ih =
        let p : 1 ≤ b - 48 = omega (arith, a.0.0, eqb-false b 48 e) in
        let q : 1 * 10 ^ length s ≤ (b - 48) * 10 ^ length s = mul-le-mul_right (10 ^ length s) p in
        let r : length s < 18 = lt_of_not-le (λ (g : 18 ≤ length s). not-le_of_lt {n = 10 ^ 18} (omega (arith, h, q, one-mul (10 ^ length s))) (ten_le 18 (length s) g)) in
        omega arith

signed_text : (minus plus : Bool) (body : List ℕ) → OptionalSign (sign_text minus plus ++ body) minus body
signed_text true plus body = OptionalSign.minus refl refl
signed_text false true body = OptionalSign.plus refl refl
signed_text false false body = OptionalSign.none refl refl

pointed : (d : ℕ) (whole part : List ℕ) → length part ≡ d → (whole ++ (point_text d ++ part) ≡ whole ++ (46 ∷ part)) ⊎ ((whole ++ (point_text d ++ part) ≡ whole) × (part ≡ []))
pointed zero whole [] e = inr (append-nil whole, refl)
pointed zero whole (b ∷ part) e = absurd (omega arith)
pointed (suc d) whole part e = inl (rw (lt-ltb 0 (suc d) (omega arith)))

-- a text with d decimals, of a number below 10^18, is a decimal: that of the f64 nearest to n / 10^d
pub reads_back : (d : ℕ) (minus plus : Bool) (n : ℕ) (t : List ℕ) → FixedText d minus plus n t → d ≤ 18 → n < 10 ^ 18 → DecimalText t (round binary64 minus n (10 ^ d))
reads_back d minus plus n t f h g =
    let body = f.whole ++ (point_text d ++ f.part) in
    let c : DottedDigits body f.whole f.part =
    record { first = f.first; second = f.second; some = omega (arith, f.some); writes = pointed d f.whole f.part f.places } in
    let s : OptionalSign t minus body = rw f.text (signed_text minus plus body) in
    let few : length (from_nonzero (f.whole ++ f.part)) ≤ 18 = few_digits (f.whole ++ f.part) (all_append f.whole f.part f.first f.second) (rw f.value g) in
    record {
      negative = minus;
      whole = f.whole;
      part = f.part;
      text = FloatText.plain s c;
      taken = taken few (omega (arith, f.places));
      nearest = rw (f.value, f.places);
    }
  where
    taken : {negative : Bool} {whole part : List ℕ} → length (from_nonzero (whole ++ part)) ≤ 18 → length part ≤ 18 → Unsupported (Form.plain negative whole part) → ⊥
    taken a b (Unsupported.long k) = omega arith
    taken a b (Unsupported.deep k) = omega arith
