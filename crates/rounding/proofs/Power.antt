-- A number below 2 ^ 64 times a power of two, rounded once. Assumes nothing.
use Rattle.std.proofs.Common.{◌≡◌, ℕ, zero, suc, ◌+◌, ◌-◌, ◌*◌, ◌^◌, ◌<◌, ◌≤◌, false, T, pos, negsuc, sym, refl, ap, ◌∙◌, subst, le_trans, le_of_eq, lt_of_lt_of_le, lt_of_le_of_lt, mul-le-mul_right, mul_assoc, mul-le-mul, mul-one, arith, lit<, lit≤, pow_pos, pow_mono, pow-add, shl_lt}
use lib.Ieee.Exact.{HasValue}
use lib.Ieee.{Float, fin, binary64, round, of_int, of_bits, mul}
use lib.Ieee.Scale.{finite, grid, normal_of_fraction, round_same, round_val}
use lib.Ieee.Positive.{positive, positive-finite, positive_of_value}
use Rattle.floats.proofs.PowerBits.{power}
use Rattle.floats.proofs.Value.{rescaled, has_finite}
use Rattle.rounding.proofs.Scale.{scale, not_over, grid_pos}

-- p times 2 ^ (n - 1086)
module _ (p n : ℕ) (low-p : 2 ^ 62 ≤ p) (high-p : p < 2 ^ 63) (low-n : 124 ≤ n) (high-n : n ≤ 1924) where
  sum : (a b c : ℕ) → a + b ≡ c → p * 2 ^ a * 2 ^ b ≡ p * 2 ^ c
  sum a b c e = mul_assoc p (2 ^ a) (2 ^ b) ∙ ap (λ (x : ℕ). p * x) (sym (pow-add 2 a b) ∙ ap (λ (x : ℕ). 2 ^ x) e)

  under : (a b : ℕ) → 63 + a ≤ b → p * 2 ^ a < 2 ^ b
  under a b h = lt_of_lt_of_le (shl_lt 63 a high-p) (pow_mono h)

  -- 2 ^ (n - 1086), by its bits
  pub factor : HasValue (of_bits binary64 ((n - 63) * 2 ^ 52)) false (2 ^ (n - 124)) (2 ^ 962)
  factor =
      let e : n - 63 ≡ suc (n - 64) = omega arith in
      let k : 52 + (n - 64) + 962 ≡ n - 124 + 1074 = omega arith in
      rescaled (of_bits binary64 ((n - 63) * 2 ^ 52)) false (2 ^ 52 * 2 ^ (n - 64)) (2 ^ 1074) (2 ^ (n - 124)) (2 ^ 962) (pow_pos 1074)
      (ap (λ (x : ℕ). x * 2 ^ 962) (sym (pow-add 2 52 (n - 64))) ∙ sym (pow-add 2 (52 + (n - 64)) 962) ∙ ap (λ (x : ℕ). 2 ^ x) k ∙ pow-add 2 (n - 124) 1074)
      (subst (λ (z : ℕ). HasValue (of_bits binary64 (z * 2 ^ 52)) false (2 ^ 52 * 2 ^ (n - 64)) (2 ^ 1074)) (sym e) (power (n - 64) (omega arith)))

  pub nearest_law : mul binary64 (of_int binary64 (pos p)) (of_bits binary64 ((n - 63) * 2 ^ 52)) ≡ round binary64 false (p * 2 ^ n) (2 ^ 1086)
  unfolding of_int
  nearest_law =
      let f = binary64 in
      let y = of_bits f ((n - 63) * 2 ^ 52) in
      let a = p * 2 ^ 124 in
      let u = n - 124 in
      let eu : 124 + u ≡ n = omega arith in
      ap (λ (x : Float). mul f x y) (round_same f false p 1 (a * 2 ^ 962) (2 ^ 1086) (lit< tt) (pow_pos 1086) (sym (mul-one (a * 2 ^ 962) ∙ sum 124 962 1086 refl)))
      ∙ scale a (2 ^ 1086) 962 u y (pow_pos 1086)
      (le_trans (lit≤ tt) (mul-le-mul_right (2 ^ 1074) (mul-le-mul_right (2 ^ 124) low-p)))
      (lt_of_le_of_lt (le_of_eq (ap (λ (x : ℕ). x * 2 ^ 1074) (sum 124 962 1086 refl) ∙ sum 1086 1074 2160 refl)) (under 2160 3183 (lit≤ tt)))
      (lt_of_le_of_lt (le_of_eq (ap (λ (x : ℕ). x * 2 ^ 1074) (sum 124 u n eu) ∙ sum n 1074 (n + 1074) refl)) (under (n + 1074) 3183 (omega arith)))
      factor
      ∙ ap (λ (x : ℕ). round f false x (2 ^ 1086)) (sum 124 u n eu)

  -- nothing overflows
  pub power_finite : T (finite (round binary64 false (p * 2 ^ n) (2 ^ 1086)))
  power_finite =
      has_finite (round binary64 false (p * 2 ^ n) (2 ^ 1086)) false (grid binary64 (p * 2 ^ n) (2 ^ 1086)) (2 ^ 1074)
      (round_val binary64 (p * 2 ^ n) (2 ^ 1086)
      (not_over (p * 2 ^ n) (2 ^ 1086) (pow_pos 1086)
      (le_trans (lit≤ tt) (mul-le-mul_right (2 ^ 1074) (mul-le-mul low-p (pow_mono low-n))))
      (lt_of_le_of_lt (le_of_eq (sum n 1074 (n + 1074) refl)) (under (n + 1074) 3183 (omega arith)))))

-- n / 2 ^ 52, for any n below 2 ^ 64: above zero where n is
pub ratio_positive : (n : ℕ) → 0 < n → n < 2 ^ 64 → T (positive (round binary64 false n (2 ^ 52)))
ratio_positive n p h =
    let lower : 2 ^ 52 * 2 ^ 52 ≤ n * 2 ^ 1074 = le_trans (lit≤ tt) (mul-le-mul_right (2 ^ 1074) p) in
    let upper : n * 2 ^ 1074 < 2 ^ 2097 * 2 ^ 52 = lt_of_lt_of_le (shl_lt 64 1074 h) (lit≤ tt) in
    positive_of_value (round binary64 false n (2 ^ 52)) (grid binary64 n (2 ^ 52)) (2 ^ 1074)
    (round_val binary64 n (2 ^ 52) (not_over n (2 ^ 52) (pow_pos 52) lower upper))
    (grid_pos binary64 n (2 ^ 52) (pow_pos 52) (normal_of_fraction binary64 n (2 ^ 52) (pow_pos 52) lower))

pub ratio_finite : (n : ℕ) → n < 2 ^ 64 → T (finite (round binary64 false n (2 ^ 52)))
unfolding round
ratio_finite zero h = tt
ratio_finite (suc n) h = positive-finite (round binary64 false (suc n) (2 ^ 52)) (ratio_positive (suc n) (omega arith) h)

-- times 2 ^ -52, rounded once
pub ratio_law : (n : ℕ) → n < 2 ^ 64 → mul binary64 (of_int binary64 (pos n)) (fin false 1 (negsuc 51)) ≡ round binary64 false n (2 ^ 52)
unfolding of_int mul round
ratio_law zero h = refl
ratio_law (suc m) h = ratio_pos (suc m) (omega arith) h
  where
    ratio_pos : (n : ℕ) → 0 < n → n < 2 ^ 64 → mul binary64 (round binary64 false n 1) (fin false 1 (negsuc 51)) ≡ round binary64 false n (2 ^ 52)
    ratio_pos n p h =
        let f = binary64 in
        let y = fin false 1 (negsuc 51) in
        let under : (a b : ℕ) → 64 + a ≤ b → n * 2 ^ a < 2 ^ b = λ a b l. lt_of_lt_of_le (shl_lt 64 a h) (pow_mono l) in
        ap (λ (x : Float). mul f x y) (round_same f false n 1 (n * 2 ^ 52) (2 ^ 52) (lit< tt) (pow_pos 52) (sym (mul-one (n * 2 ^ 52))))
        ∙ scale n (2 ^ 52) 52 0 y (pow_pos 52)
        (le_trans (lit≤ tt) (mul-le-mul_right (2 ^ 1074) p))
        (lt_of_le_of_lt (le_of_eq (mul_assoc n (2 ^ 52) (2 ^ 1074))) (under 1126 2149 (lit≤ tt)))
        (lt_of_le_of_lt (le_of_eq (mul_assoc n (2 ^ 0) (2 ^ 1074))) (under 1074 2149 (lit≤ tt)))
        (refl, refl)
        ∙ ap (λ (x : ℕ). round f false x (2 ^ 52)) (mul-one n)
