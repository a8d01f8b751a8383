-- One division is one rounding: the quotient of two whole numbers that are f64 values is the f64 nearest to their fraction.
-- Assumes nothing.
use Rattle.std.proofs.Common.{◌≡◌, ℕ, zero, suc, ◌+◌, ◌*◌, ◌^◌, ◌<◌, ◌≤◌, false, pos, sym, refl, ap, ◌∙◌, lt_of_lt_of_le, lt_of_le_of_lt, mul_assoc, mul-pos, mul-one, mul_right_comm, arith, lit<, pow_mono, pow-add, shl_lt, ne_eqb}
use native.Mathlib.Nat.{mul-mul-mul_comm, pow-succ', pow-le-pow_right}
use lib.Ieee.{Float, nan, inf, fin, binary64, up, down, round, div, of_int}
use lib.Ieee.Back.{round_whole}
use lib.Ieee.Fits.{down_pos}
use lib.Ieee.Exact.{HasValue, round_exact}
use lib.Ieee.Scale.{round_same}
use Rattle.integers.proofs.Tens.{ten_pos}

-- 10 ^ k is 5 ^ k with k zero bits after it
tens : (k : ℕ) → 10 ^ k ≡ 5 ^ k * 2 ^ k
tens zero = refl
tens (suc k) =
    pow-succ' 10 k
    ∙ ap (λ (x : ℕ). 10 * x) (tens k)
    ∙ sym (ap (λ (x : ℕ). x * 2 ^ suc k) (pow-succ' 5 k) ∙ ap (λ (x : ℕ). 5 * 5 ^ k * x) (pow-succ' 2 k) ∙ mul-mul-mul_comm 5 (5 ^ k) 2 (2 ^ k))

-- 10 ^ k is an f64 value
pub ten_exact : (k : ℕ) → k ≤ 18 → HasValue (of_int binary64 (pos (10 ^ k))) false (10 ^ k) 1
unfolding of_int
ten_exact k h =
    let small : 5 ^ k < 2 ^ 53 = lt_of_le_of_lt (pow-le-pow_right {n = 5} (lit< tt) {i = k} {j = 18} h) (lit< tt) in
    round_exact binary64 false (10 ^ k) 1 (5 ^ k) (k + 1074) (lit< tt) small (lt_of_lt_of_le (shl_lt 53 (k + 1074) small) (pow_mono {i = 53 + (k + 1074)} {j = 2098} (omega arith)))
    (ap (λ (x : ℕ). x * 2 ^ 1074) (tens k) ∙ mul_assoc (5 ^ k) (2 ^ k) (2 ^ 1074) ∙ ap (λ (x : ℕ). 5 ^ k * x) (sym (pow-add 2 k 1074)) ∙ sym (mul-one (5 ^ k * 2 ^ (k + 1074))))

cross : (n e g d : ℕ) → n * e * g * d ≡ n * (d * g * e)
cross n e g d = mul_right_comm (n * e) g d ∙ ap (λ (x : ℕ). x * g) (mul_right_comm n e d) ∙ mul_right_comm (n * d) e g ∙ ap (λ (x : ℕ). x * e) (mul_assoc n d g) ∙ mul_assoc n (d * g) e

-- THE LAW: x and y are n and d exactly, so x / y is rounded once, from n / d
pub quotient_nearest : (x y : Float) (n d : ℕ) → 0 < d → HasValue x false n 1 → HasValue y false d 1 → div binary64 x y ≡ round binary64 false n d
unfolding div
quotient_nearest nan y n d p v w = absurd v
quotient_nearest (inf s) y n d p v w = absurd v
quotient_nearest (fin s a e) nan n d p v w = absurd w
quotient_nearest (fin s a e) (inf t) n d p v w = absurd w
quotient_nearest (fin s a e) (fin t b g) n d p v w =
    let x : a * up e ≡ n * down e = sym (mul-one (a * up e)) ∙ v.1 in
    let y : b * up g ≡ d * down g = sym (mul-one (b * up g)) ∙ w.1 in
    let q : 0 < b * up g = rw y (mul-pos p (down_pos g)) in
    let z : b ≡ 0 → ⊥ = λ f. let h : 0 < 0 * up g = rw f at q in omega arith in
    rw (ne_eqb b 0 z, v.0, w.0)
    (round_same binary64 false (a * up e * down g) (b * up g * down e) n d (mul-pos q (down_pos e)) p
    (ap (λ (m : ℕ). m * down g * d) x ∙ cross n (down e) (down g) d ∙ sym (ap (λ (m : ℕ). n * (m * down e)) y)))

-- n up to 2 ^ 53 by 10 ^ k
pub exact_decimal : (n k : ℕ) → n ≤ 2 ^ 53 → k ≤ 18 → div binary64 (of_int binary64 (pos n)) (of_int binary64 (pos (10 ^ k))) ≡ round binary64 false n (10 ^ k)
unfolding of_int
exact_decimal n k h l =
    quotient_nearest (round binary64 false n 1) (round binary64 false (10 ^ k) 1) n (10 ^ k) (ten_pos k) (round_whole binary64 false n h) (ten_exact k l)
