-- An exponent halved: numbers of which each is about the square root of the one before, against the roots of two; and products of them
-- by the digits of a number, the highest first, against its powers. Assumes nothing.
use mathlib.Core.Path.{◌≡◌, sym, ap, ◌∙◌}
use Prim.Native.Nat.{ℕ, zero, suc, ◌+◌, ◌-◌, ◌*◌, ◌/◌, ◌%◌, ◌^◌, ◌≤◌, ◌<◌}
use native.Mathlib.Nat.{le_refl, mul-le-mul_left, mul-le-mul_right, pow-suc, pow-zero, div-div-eq-div-mul}
use native.Mathlib.Omega.{arith}
use lib.Dec.{eqb}
use Rattle.base.specs.Said.{pick}
use Rattle.log_roots.proofs.Ratio.{Le, le_root, le_of, le_mul, le_twice, two_pow}

-- ---- u is about the root of M * t: not above it, and u + 2 not below the root of M * (t + 2)
pub record Pair (M t u : ℕ) : Type 0 where
  pub low : u * u ≤ M * t
  pub high : M * (t + 2) ≤ (u + 2) * (u + 2)

pub pow_one : (n : ℕ) → n ^ 1 ≡ n
pow_one n = pow-suc n 0 ∙ omega (arith, ap (λ (x : ℕ). x * n) (pow-zero n))

-- the k-th of them is 2 ^ (1 / 2 ^ k) * M at most, and with 2 more at least
module _ (M top : ℕ) (t : ℕ → ℕ) (some : 0 < M) (first : t 0 ≡ 2 * M)
    (pair : (k : ℕ) → k < top → Pair M (t k) (t (suc k))) where
  pub root_most : (k : ℕ) → k ≤ top → Le (2 ^ k) 0 (t k) 1 M
  root_most zero h = record { le = rw (pow_one (t 0), pow_one M) (omega (arith, first)) }
  root_most (suc k) h = rw (two_pow k) (le_root (le_of (root_most k (omega arith)) some (square (t k) (t (suc k)) (pair k h).low)))
    where
      square : (t u : ℕ) → u * u ≤ M * t → u * u * M ≤ t * (M * M)
      square t u h = omega (arith, mul-le-mul_right M h)

  pub root_least : (k : ℕ) → k ≤ top → Le (2 ^ k) 1 M 0 (t k + 2)
  root_least zero h = record { le = rw (pow_one (t 0 + 2), pow_one M) (omega (arith, first)) }
  root_least (suc k) h =
      rw (two_pow k) (le_root (le_of (root_least k (omega arith)) (omega arith) (square (t k) (t (suc k)) (pair k h).high)))
    where
      square : (t u : ℕ) → M * (t + 2) ≤ (u + 2) * (u + 2) → M * M * (t + 2) ≤ M * ((u + 2) * (u + 2))
      square t u h = omega (arith, mul-le-mul_left M h)

-- ---- the first k digits of b, of n
pub digit : (n b k : ℕ) → k < n → b / 2 ^ (n - suc k) ≡ b / 2 ^ (n - k) + b / 2 ^ (n - k) + b / 2 ^ (n - suc k) % 2
digit n b k h =
    let e : n - k ≡ suc (n - suc k) = omega arith in
    let f : b / 2 ^ (n - k) ≡ b / 2 ^ (n - suc k) / 2 =
    ap (λ (x : ℕ). b / 2 ^ x) e ∙ ap (λ (x : ℕ). b / x) (pow-suc 2 (n - suc k))
    ∙ sym (div-div-eq-div-mul b (2 ^ (n - suc k)) 2) in
    omega arith

-- ---- a product X with one factor more, for the next digit d: u where it is 1, else W, which is 1 in parts of W
pub same : (n p : ℕ) → Le n 0 p 0 p
same n p = record { le = le_refl _ }

module _ {n j X Z u W : ℕ} where
  pub low_step : (d : ℕ) → d < 2 → Le (n + n) 0 u 1 W → Le n 0 X j Z → Le (n + n) 0 (X * pick (eqb d 1) u W) (j + j + d) (Z * W)
  low_step zero two r h = le_mul (le_twice h) (same (n + n) W)
  low_step (suc zero) two r h = le_mul (le_twice h) r
  low_step (suc (suc d)) two r h = absurd (omega arith)

  pub high_step : (d : ℕ) → d < 2 → Le (n + n) 1 W 0 u → Le n j Z 0 X → Le (n + n) (j + j + d) (Z * W) 0 (X * pick (eqb d 1) u W)
  high_step zero two r h = le_mul (le_twice h) (same (n + n) W)
  high_step (suc zero) two r h = le_mul (le_twice h) r
  high_step (suc (suc d)) two r h = absurd (omega arith)
