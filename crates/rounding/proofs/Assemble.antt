-- A quotient of 54 binary digits and its rest, rounded and put together as an f64's bits, are what `round` gives. Assumes nothing.
use Rattle.std.proofs.Common.{◌≡◌, ℕ, suc, ◌+◌, ◌-◌, ◌*◌, ◌/◌, ◌^◌, ◌<◌, ◌≤◌, Bool, true, false, not, T, ltb, ◌⊎◌, pos, sym, ap, ◌∙◌, subst, inl, inr, true≢false, le_trans, le_of_eq, lt_of_lt_of_le, lt_of_le_of_lt, mul-le-mul_right, mod-eq_of_lt, mul_assoc, div-lt_iff_lt-mul, eq-or-lt_of_le, mul-lt-mul_of_pos_right, mul-pos, lt_of_not-le, le-div_iff_mul-le, zero-mul, mul_right_comm, not-le_of_lt, mul-div_cancel, mul_left_comm, arith, lit<, pow_pos, pow_mono, pow-add, le-ltb}
use native.Mathlib.Nat.{eq_of_mul-eq-mul_right}
use lib.Pow.{pow-lt, shl-shr}
use lib.Ieee.Exact.{HasValue, units_val}
use lib.Arith.{digits_lt}
use lib.Ieee.{Float, fin, binary64, low, size, units, up, down, round, fits, to_bits, of_bits, nan_bits, inf, nan}
use lib.Ieee.Fits.{down_pos, round-fits, round_is, core}
use lib.Ieee.Digits.{size-lt, size-le}
use lib.Ieee.Nearest.{closest, closest_same}
use lib.Ieee.Bits.{of_bits-to_bits, nan_bits_above}
use lib.Ieee.Scale.{round_same}
use Rattle.rounding.specs.Nearest.{rounded_half}
use Rattle.rounding.proofs.Steps.{pow_more}
use Rattle.rounding.proofs.Nearest.{half_closest, half_low, half_high}

-- how many digits
pub size_is : (w k : ℕ) → 2 ^ k ≤ w → w < 2 ^ suc k → size w ≡ suc k
size_is w k a b =
    let l : size w ≤ suc k = size-le w (suc k) b in
    let g : k < size w = lt_of_not-le (λ (g : size w ≤ k). not-le_of_lt (lt_of_lt_of_le (size-lt w) (pow_mono g)) a) in
    omega arith

-- the long division's result, rounded
pub divided_rounds : (s : Bool) (n e up st q r : ℕ) → 0 < e → n * 2 ^ st ≡ q * e + r → r < e → 2 ^ 53 ≤ q → q < 2 ^ 54 → st ≤ 1074 + up
    → round binary64 s (n * 2 ^ up) e ≡ units binary64 s (rounded_half q r) (1075 + up - st)
divided_rounds s n e up st q r E exact small lo hi few =
    let c = 1074 + up - st in
    let a = q * e + r in
    let back : c + st ≡ up + 1074 = omega arith in
    let N = n * 2 ^ up * 2 ^ 1074 in
    let i : N ≡ a * 2 ^ c =
    eq_of_mul-eq-mul_right (2 ^ st) (pow_pos st) N (a * 2 ^ c)
    (ap (λ (x : ℕ). x * 2 ^ st) (mul_assoc n (2 ^ up) (2 ^ 1074) ∙ ap (λ (x : ℕ). n * x) (sym (pow-add 2 up 1074)))
    ∙ mul_right_comm n (2 ^ (up + 1074)) (2 ^ st)
    ∙ ap (λ (x : ℕ). x * 2 ^ (up + 1074)) exact
    ∙ ap (λ (x : ℕ). a * 2 ^ x) (sym back)
    ∙ ap (λ (x : ℕ). a * x) (pow-add 2 c st)
    ∙ sym (mul_assoc a (2 ^ c) (2 ^ st))) in
    let low-a : 2 ^ 53 * e ≤ a = le_trans (mul-le-mul_right e lo) (omega arith) in
    let high-a : a < 2 ^ 54 * e = digits_lt hi small in
    let lower : 2 ^ (53 + c) ≤ a * 2 ^ c / e =
    (le-div_iff_mul-le E).1 (le_trans (le_of_eq (ap (λ (x : ℕ). x * e) (pow-add 2 53 c) ∙ mul_right_comm (2 ^ 53) (2 ^ c) e)) (mul-le-mul_right (2 ^ c) low-a)) in
    let upper : a * 2 ^ c / e < 2 ^ (54 + c) =
    (div-lt_iff_lt-mul E).1 (lt_of_lt_of_le (mul-lt-mul_of_pos_right high-a (pow_pos c)) (le_of_eq (mul_right_comm (2 ^ 54) e (2 ^ c) ∙ ap (λ (x : ℕ). x * e) (sym (pow-add 2 54 c))))) in
    let z : size (a * 2 ^ c / e) ≡ suc (53 + c) = size_is (a * 2 ^ c / e) (53 + c) lower (subst (λ (x : ℕ). a * 2 ^ c / e < 2 ^ x) (omega arith) upper) in
    let k : size (N / e) - 53 ≡ c + 1 = ap (λ (x : ℕ). size (x / e) - 53) i ∙ omega (arith, z) in
    let same : closest (a * 2 ^ c) (e * 2 ^ (c + 1)) ≡ closest a (e * 2) =
    closest_same (a * 2 ^ c) (e * 2 ^ (c + 1)) a (e * 2) (mul-pos E (pow_pos (c + 1))) (mul-pos E (lit< tt))
    (mul_assoc a (2 ^ c) (e * 2) ∙ ap (λ (x : ℕ). a * x) (mul_left_comm (2 ^ c) e 2 ∙ ap (λ (x : ℕ). e * x) (sym (pow_more 2 c)))) in
    round_is binary64 s (n * 2 ^ up) e
    ∙ ap (λ (x : ℕ). core binary64 s N e x) k
    ∙ ap (λ (x : ℕ). core binary64 s x e (c + 1)) i
    ∙ ap (λ (x : ℕ). units binary64 s x (c + 1)) (same ∙ half_closest q e r small)
    ∙ ap (λ (x : ℕ). units binary64 s (rounded_half q r) x) (omega arith)

-- a number of 53 digits, or 2 ^ 53, at 2 ^ k units
val_units : (m u d h k : ℕ) → 0 < d → m * u * 2 ^ 1074 ≡ h * 2 ^ k * d → m * u * 2 ^ 1074 / d ≡ h * 2 ^ k
val_units m u d h k D v = ap (λ (x : ℕ). x / d) v ∙ mul-div_cancel (h * 2 ^ k) D

-- the pattern that `to_bits` writes for n units
abbrev pattern : ℕ → ℕ
pattern n = (size n - 53) * 2 ^ 52 + n / 2 ^ (size n - 53)

pattern_is : (h k : ℕ) → 2 ^ 52 ≤ h → h ≤ 2 ^ 53 → pattern (h * 2 ^ k) ≡ k * 2 ^ 52 + h
pattern_is h k lo hi = go (eq-or-lt_of_le hi)
  where
    go : (h ≡ 2 ^ 53) ⊎ (h < 2 ^ 53) → pattern (h * 2 ^ k) ≡ k * 2 ^ 52 + h
    go (inr l) =
        let n = h * 2 ^ k in
        let a : 2 ^ (52 + k) ≤ n = le_trans (le_of_eq (pow-add 2 52 k)) (mul-le-mul_right (2 ^ k) lo) in
        let b : n < 2 ^ (53 + k) = lt_of_lt_of_le (mul-lt-mul_of_pos_right l (pow_pos k)) (le_of_eq (sym (pow-add 2 53 k))) in
        let z : size n ≡ suc (52 + k) = size_is n (52 + k) a (subst (λ (x : ℕ). n < 2 ^ x) (omega arith) b) in
        let s : size n - 53 ≡ k = omega (arith, z) in
        ap (λ (x : ℕ). x * 2 ^ 52 + n / 2 ^ x) s ∙ ap (λ (x : ℕ). k * 2 ^ 52 + x) (shl-shr h k)
    go (inl e) =
        let n = 2 ^ 53 * 2 ^ k in
        let a : 2 ^ (53 + k) ≤ n = le_of_eq (pow-add 2 53 k) in
        let b : n < 2 ^ (54 + k) = lt_of_le_of_lt (le_of_eq (sym (pow-add 2 53 k))) (lt_of_lt_of_le (omega (arith, pow_pos (53 + k))) (le_of_eq {n = 2 ^ (53 + k) * 2} (sym (pow_more 2 (53 + k)) ∙ ap (λ (x : ℕ). 2 ^ x) (omega arith)))) in
        let z : size n ≡ suc (53 + k) = size_is n (53 + k) a (subst (λ (x : ℕ). n < 2 ^ x) (omega arith) b) in
        let s : size n - 53 ≡ k + 1 = omega (arith, z) in
        let d : n / 2 ^ (k + 1) ≡ 2 ^ 52 = ap (λ (x : ℕ). x / 2 ^ (k + 1)) (sym (pow-add 2 53 k) ∙ ap (λ (x : ℕ). 2 ^ x) (omega arith) ∙ pow-add 2 52 (k + 1)) ∙ shl-shr (2 ^ 52) (k + 1) in
        rw e (ap (λ (x : ℕ). x * 2 ^ 52 + n / 2 ^ x) s ∙ ap (λ (x : ℕ). (k + 1) * 2 ^ 52 + x) d ∙ omega arith)

-- its bits: the carry out of the digits goes into the exponent
pub bits_of : (x : Float) (h k : ℕ) → T (fits binary64 x) → HasValue x false (h * 2 ^ k) (2 ^ 1074) → 2 ^ 52 ≤ h → h ≤ 2 ^ 53 → of_bits binary64 (k * 2 ^ 52 + h) ≡ x
unfolding to_bits
bits_of (fin true m e) h k f v lo hi = absurd (true≢false v.0)
bits_of (fin false m e) h k f v lo hi =
    let n : m * up e * 2 ^ 1074 / down e ≡ h * 2 ^ k = val_units m (up e) (down e) h k (down_pos e) v.1 in
    let t : to_bits binary64 (fin false m e) ≡ k * 2 ^ 52 + h = ap (λ (x : ℕ). 0 + (size x - 53) * 2 ^ 52 + x / 2 ^ (size x - 53)) n ∙ omega (arith, pattern_is h k lo hi) in
    ap (of_bits binary64) (sym t) ∙ of_bits-to_bits binary64 (fin false m e) f
bits_of nan h k f v lo hi = elim v [ ]
bits_of (inf _) h k f v lo hi = elim v [ ]

-- it does not overflow
pub under_top : (h k : ℕ) → h ≤ 2 ^ 53 → k ≤ 2040 → h * 2 ^ k < 2 ^ 2098
under_top h k a b = lt_of_le_of_lt (mul-le-mul_right (2 ^ k) a) (lt_of_le_of_lt (le_of_eq (sym (pow-add 2 53 k))) (pow-lt {i = 53 + k} {j = 2098} (omega arith)))

-- the assembled bits are the nearest f64
pub scaled_bits : (n e up st q r : ℕ) → 0 < e → n * 2 ^ st ≡ q * e + r → r < e → 2 ^ 53 ≤ q → q < 2 ^ 54 → st < 120 → up < 7
    → of_bits binary64 ((1075 + up - st) * 2 ^ 52 + rounded_half q r) ≡ round binary64 false (n * 2 ^ up) e
scaled_bits n e up st q r E exact small lo hi few low =
    let h = rounded_half q r in
    let k = 1075 + up - st in
    let x = round binary64 false (n * 2 ^ up) e in
    let is : x ≡ units binary64 false h k = divided_rounds false n e up st q r E exact small lo hi (omega arith) in
    bits_of x h k (round-fits binary64 false (n * 2 ^ up) e)
    (subst (λ (y : Float). HasValue y false (h * 2 ^ k) (2 ^ 1074)) (sym is) (units_val binary64 false h k (under_top h k (half_high q r hi) (omega arith))))
    (half_low q r lo) (half_high q r hi)

-- and no NaN's, which `from_bits` asks
pub no_nan : (n : ℕ) → n < 2047 * 2 ^ 52 → T (not (nan_bits binary64 n))
no_nan n h = subst (λ (b : Bool). T (not b)) (sym (nan_bits_above binary64 n ∙ ap (λ (x : ℕ). ltb (2047 * 2 ^ 52) x) (mod-eq_of_lt {n = n} {m = 2 ^ 63} (omega arith)) ∙ le-ltb (2047 * 2 ^ 52) n (omega arith))) tt

-- zero over anything is 0.0
pub zero_round : (d : ℕ) → 0 < d → fin false 0 (pos 0) ≡ round binary64 false 0 d
unfolding round
zero_round d D = round_same binary64 false 0 1 0 d (lit< tt) D (zero-mul d)
