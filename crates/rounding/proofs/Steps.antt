-- The long division: one step, and how many steps there can be. Assumes nothing.
use Rattle.std.proofs.Common.{◌≡◌, ℕ, ◌+◌, ◌-◌, ◌*◌, ◌^◌, ◌<◌, ◌≤◌, sym, ap, ◌∙◌, mul-le-mul_right, mul_assoc, add-mul, one-mul, pow-suc, lt_of_not-le, mul_right_comm, not-le_of_lt, add-one, arith, pow_mono}
use lib.Arith.{digits_lt}

-- one factor more
pub pow_more : (b i : ℕ) → b ^ (i + 1) ≡ b ^ i * b
pow_more b i = ap (λ (k : ℕ). b ^ k) (add-one i) ∙ pow-suc b i

-- the dividend doubled: the next bit of the quotient is 0 or 1
double : (n s q e r : ℕ) → n * 2 ^ s ≡ q * e + r → n * 2 ^ (s + 1) ≡ q * e * 2 + r * 2
double n s q e r h =
    let a : n * 2 ^ (s + 1) ≡ n * 2 ^ s * 2 = ap (λ (x : ℕ). n * x) (pow_more 2 s) ∙ sym (mul_assoc n (2 ^ s) 2) in
    omega (arith, a, h)

pub step_none : (n s q e r : ℕ) → n * 2 ^ s ≡ q * e + r → n * 2 ^ (s + 1) ≡ q * 2 * e + r * 2
step_none n s q e r h = omega (arith, double n s q e r h, mul_right_comm q 2 e)

pub step_one : (n s q e r : ℕ) → n * 2 ^ s ≡ q * e + r → e ≤ r * 2 → n * 2 ^ (s + 1) ≡ (q * 2 + 1) * e + (r * 2 - e)
step_one n s q e r h g = omega (arith, double n s q e r h, mul_right_comm q 2 e, add-mul (q * 2) 1 e, one-mul e)

-- 54 binary digits are there after 113 steps
pub few_steps : (n s q e r : ℕ) → 0 < n → e < 2 ^ 60 → n * 2 ^ s ≡ q * e + r → r < e → q < 2 ^ 53 → s < 113
few_steps n s q e r p h x y z =
    lt_of_not-le (λ (g : 113 ≤ s).
    not-le_of_lt {n = 2 ^ 113} (omega (arith, digits_lt z y, x, mul-le-mul_right (2 ^ s) p, one-mul (2 ^ s))) (pow_mono g))
