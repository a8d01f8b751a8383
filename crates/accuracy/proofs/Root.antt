-- 2 ^ (1 / n) is 1 + 3 / (4 * n) at most, for n = 8 * q. Assumes nothing.
use mathlib.Core.Path.{◌≡◌, sym, ap, ◌∙◌}
use Prim.Native.Nat.{ℕ, ◌+◌, ◌*◌, ◌^◌, ◌≤◌, ◌<◌}
use native.Mathlib.Nat.{le_trans, le_of_eq, mul_comm, le_of_mul-le-mul_right, pow-le-pow_left}
use native.Mathlib.Omega.{arith}
use lib.Dec.{lit<}
use Rattle.log_roots.proofs.Ratio.{mul_pow, pow_mul, Le}
use Rattle.explog.proofs.Close.{bern_low}

-- q factors of 1 + 3 / (32 * q) make 1 + 3 / 32 at least, by Bernoulli; and (35 / 32) ^ 8 is above 2
eighth : (q : ℕ) → 0 < q → 35 * (32 * q) ^ q ≤ 32 * (32 * q + 3) ^ q
eighth q some = le_of_mul-le-mul_right {k = q} (omega (arith, bern_low (32 * q) 3 q)) some

eight : (a b x y : ℕ) → a * x ≤ b * y → a ^ 8 * x ^ 8 ≤ b ^ 8 * y ^ 8
eight a b x y h = le_trans (le_of_eq (sym (mul_pow a x 8))) (le_trans (pow-le-pow_left h 8) (le_of_eq (mul_pow b y 8)))

pub one_more : (q : ℕ) → 0 < q → Le (8 * q) 1 (32 * q) 0 (32 * q + 3)
one_more q some = record {
  le = goal ((32 * q) ^ q) ((32 * q + 3) ^ q) (eighths (32 * q)) (eighths (32 * q + 3)) (eight 35 32 _ _ (eighth q some));
}
  where
    eighths : (x : ℕ) → x ^ (8 * q) ≡ (x ^ q) ^ 8
    eighths x = ap (λ (z : ℕ). x ^ z) (mul_comm 8 q) ∙ sym (pow_mul x q 8)

    goal : (x y : ℕ) → (32 * q) ^ (8 * q) ≡ x ^ 8 → (32 * q + 3) ^ (8 * q) ≡ y ^ 8 → 35 ^ 8 * x ^ 8 ≤ 32 ^ 8 * y ^ 8
        → 2 ^ 1 * (32 * q) ^ (8 * q) ≤ 2 ^ 0 * (32 * q + 3) ^ (8 * q)
    goal x y e f h = rw (e, f) (le_of_mul-le-mul_right {k = 32 ^ 8} (omega (arith, h)) (lit< tt))
