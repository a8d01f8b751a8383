-- Beside log_roots/proofs/Ratio and its `Le`: the strict order `Lt n i p j q`, that is 2 ^ (i / n) * p < 2 ^ (j / n) * q; a power of two
-- moved between a fraction and its exponent; other exponents; and the orders of specs/Accuracy, whose exponent has a sign. Assumes nothing.
use mathlib.Core.Path.{◌≡◌, sym, ap, ◌∙◌}
use mathlib.Core.Logic.{◌≢◌}
use mathlib.Core.Bool.{Bool, true, false, cond}
use Prim.Native.Nat.{ℕ, zero, suc, ◌+◌, ◌*◌, ◌^◌, ◌≤◌, ◌<◌}
use native.Mathlib.Nat.{le_trans, le_of_eq, lt_of_not-le, not-le_of_lt, lt_of_lt_of_le, lt_of_le_of_lt, mul-le-mul_left, mul-le-mul_right}
use native.Mathlib.Nat.{mul-lt-mul_of_pos_left, mul-lt-mul_of_pos_right, le_of_mul-le-mul_right, lt_of_mul-lt-mul_right, mul_right_comm}
use native.Mathlib.Nat.{mul_assoc, mul-one, one-mul, pow-le-pow_left, pow-lt-pow_left, one-le-pow, pow-suc, pow-zero}
use native.Mathlib.Omega.{arith}
use lib.Pow.{pow-add, pow-lt, pow_pos}
use lib.IntN.{ℤ, pos, negsuc}
use lib.Ieee.{up, down}
use lib.Ieee.Fits.{down_pos}
use Rattle.explog.specs.Rules.{signed}
use Rattle.explog.proofs.Diff.{Diff}
use Rattle.log_roots.proofs.Ratio.{mul_pow, pow_mul, raised, swap, Le, old, joined, powered}
use Rattle.accuracy.specs.Accuracy.{AtMost, AtLeast, Below, Above}

pub record Lt (n i p j q : ℕ) : Type 0 where
  pub strictly : 2 ^ i * p ^ n < 2 ^ j * q ^ n

-- another fraction: r / s is p / q at most
pub lt_of : {n i p j q r s : ℕ} → Lt n i p j q → 0 < s → r * q ≤ p * s → Lt n i r j s
lt_of {n} {i} {p} {j} {q} {r} {s} f S h = record {
  strictly = lt_of_mul-lt-mul_right (q ^ n)
      (lt_of_le_of_lt (swap n i p q r s h)
      (lt_of_lt_of_le (mul-lt-mul_of_pos_right f.strictly (one-le-pow n s S)) (le_of_eq (mul_right_comm (2 ^ j) (q ^ n) (s ^ n)))));
}

-- ---- 2 ^ e, in a fraction or in the exponent beside it
inside : (n e i p : ℕ) → 2 ^ (e * n + i) * p ^ n ≡ 2 ^ i * (p * 2 ^ e) ^ n
inside n e i p = rw (mul_pow p (2 ^ e) n, pow_mul 2 e n, pow-add 2 (e * n) i) (sorted (2 ^ (e * n)) (2 ^ i) (p ^ n))
  where
    sorted : (x y z : ℕ) → x * y * z ≡ y * (z * x)
    sorted x y z = omega arith

scaled : (n e i p : ℕ) → 2 ^ (e * n + i) * p ^ n ≡ 2 ^ (e * n) * (2 ^ i * p ^ n)
scaled n e i p = ap (λ (z : ℕ). z * p ^ n) (pow-add 2 (e * n) i) ∙ mul_assoc (2 ^ (e * n)) (2 ^ i) (p ^ n)

module _ {n i p j q : ℕ} (e : ℕ) where
  -- both sides times 2 ^ e: in the exponents
  both : Le n i p j q → Le n (e * n + i) p (e * n + j) q
  both f = record {
    le = le_trans (le_of_eq (scaled n e i p)) (le_trans (mul-le-mul_left (2 ^ (e * n)) f.le) (le_of_eq (sym (scaled n e j q))));
  }

  -- out of the fraction
  pub left_out : Le n i (p * 2 ^ e) j q → Le n (e * n + i) p j q
  left_out f = record { le = le_trans (le_of_eq (inside n e i p)) f.le }

  pub right_out : Le n i p j (q * 2 ^ e) → Le n i p (e * n + j) q
  right_out f = record { le = le_trans f.le (le_of_eq (sym (inside n e j q))) }

  -- in the fraction on one side, in the exponent on the other
  pub left_in : Le n i p j q → Le n i (p * 2 ^ e) (e * n + j) q
  left_in f = record { le = le_trans (le_of_eq (sym (inside n e i p))) (both f).le }

  pub right_in : Le n i p j q → Le n (e * n + i) p j (q * 2 ^ e)
  right_in f = record { le = le_trans (both f).le (le_of_eq (inside n e j q)) }

-- ---- a power of two and no fraction beside it
one_pow : (n : ℕ) → 1 ^ n ≡ 1
one_pow zero = pow-zero 1
one_pow (suc n) = pow-suc 1 n ∙ ap (λ (z : ℕ). z * 1) (one_pow n)

pub bare : (n k : ℕ) → 2 ^ k * 1 ^ n ≡ 2 ^ k
bare n k = ap (λ (z : ℕ). 2 ^ k * z) (one_pow n) ∙ mul-one (2 ^ k)

module _ {n k p : ℕ} where
  pub below_power : Le n 0 p k 1 → p ^ n ≤ 2 ^ k
  below_power f = le_trans (le_of_eq (sym (one-mul (p ^ n)))) (le_trans f.le (le_of_eq (bare n k)))

  pub of_below_power : p ^ n ≤ 2 ^ k → Le n 0 p k 1
  of_below_power h = record { le = le_trans (le_of_eq (one-mul (p ^ n))) (le_trans h (le_of_eq (sym (bare n k)))) }

  pub above_power : Le n k 1 0 p → 2 ^ k ≤ p ^ n
  above_power f = le_trans (le_of_eq (sym (bare n k))) (le_trans f.le (le_of_eq (one-mul (p ^ n))))

  pub of_above_power : 2 ^ k ≤ p ^ n → Le n k 1 0 p
  of_above_power h = record { le = le_trans (le_of_eq (bare n k)) (le_trans h (le_of_eq (sym (one-mul (p ^ n))))) }

-- both sides to the power t
pub power_le : (p n k t : ℕ) → p ^ n ≤ 2 ^ k → p ^ (n * t) ≤ 2 ^ (k * t)
power_le p n k t h = le_trans (le_of_eq (sym (pow_mul p n t))) (le_trans (pow-le-pow_left h t) (le_of_eq (pow_mul 2 k t)))

pub power_lt : (p n k t : ℕ) → t ≢ 0 → 2 ^ k < p ^ n → 2 ^ (k * t) < p ^ (n * t)
power_lt p n k t nz h =
    lt_of_le_of_lt (le_of_eq (sym (pow_mul 2 k t))) (lt_of_lt_of_le (pow-lt-pow_left h nz) (le_of_eq (pow_mul p n t)))

-- ---- other exponents: from (S - K) / N to (i - j) / n. A is 2 ^ (i * N), C 2 ^ (K * n), D 2 ^ (S * n), G 2 ^ (j * N)
lt_cancel : (A C D G X Y : ℕ) → 0 < A → A * C ≤ D * G → D * X < C * Y → A * X < G * Y
lt_cancel A C D G X Y a h k =
    lt_of_mul-lt-mul_right D
    (lt_of_le_of_lt (le_of_eq (sorted A X D)) (lt_of_lt_of_le (mul-lt-mul_of_pos_left k a) (omega (arith, mul-le-mul_right Y h))))
  where
    sorted : (x y z : ℕ) → x * y * z ≡ x * (z * y)
    sorted x y z = omega arith

strict_cancel : (A C D G X Y : ℕ) → 0 < C → 0 < X → A * C < D * G → D * X ≤ C * Y → A * X < G * Y
strict_cancel A C D G X Y c x h k =
    lt_of_mul-lt-mul_right C
    (lt_of_le_of_lt (le_of_eq (mul_right_comm A X C)) (lt_of_lt_of_le (mul-lt-mul_of_pos_right h x) (omega (arith, mul-le-mul_right G k))))

module _ (N S K p q n i j : ℕ) where
  -- from the power N back
  unpowered : 2 ^ (i * N) * p ^ (n * N) < 2 ^ (j * N) * q ^ (n * N) → Lt n i p j q
  unpowered h = record {
    strictly = lt_of_not-le (λ (g : 2 ^ j * q ^ n ≤ 2 ^ i * p ^ n).
        not-le_of_lt h (le_trans (le_of_eq (sym (raised n j q N))) (le_trans (pow-le-pow_left g N) (le_of_eq (raised n i p N)))));
  }

  pub lt_at : n ≢ 0 → i * N + K * n ≤ S * n + j * N → Lt N S p K q → Lt n i p j q
  lt_at nz l f = unpowered (lt_cancel _ _ _ _ _ _
      (pow_pos (i * N)) (joined N S K p q n i j l)
      (lt_of_le_of_lt (le_of_eq (sym (old N S K p q n i j S p)))
      (lt_of_lt_of_le (pow-lt-pow_left f.strictly nz) (le_of_eq (old N S K p q n i j K q)))))

  pub strict_at : 0 < p → i * N + K * n < S * n + j * N → Le N S p K q → Lt n i p j q
  strict_at some l f = unpowered (strict_cancel _ _ _ _ _ _
      (pow_pos (K * n)) (one-le-pow (n * N) p some)
      (lt_of_le_of_lt (le_of_eq (sym (pow-add 2 (i * N) (K * n)))) (lt_of_lt_of_le (pow-lt l) (le_of_eq (pow-add 2 (S * n) (j * N)))))
      (powered N S K p q n i j f))

-- ---- an exponent with a sign: 2 ^ z is up z / down z, and 2 ^ j / 2 ^ i where z is j - i
pub same_power : (z : ℤ) (j i : ℕ) → Diff z j i → up z * 2 ^ i ≡ 2 ^ j * down z
same_power (pos n) j i h = sym (mul-one (2 ^ j) ∙ ap (λ (x : ℕ). 2 ^ x) h ∙ pow-add 2 n i)
same_power (negsuc n) j i h = one-mul (2 ^ i) ∙ ap (λ (x : ℕ). 2 ^ x) (sym h) ∙ pow-add 2 j (suc n)

-- u / d is J / I, and X and Y are anything
across : (u d J I X Y : ℕ) → u * I ≡ J * d → 0 < I → J * X ≤ I * Y → u * X ≤ Y * d
across u d J I X Y e p h = le_of_mul-le-mul_right {k = I} (omega (arith, ap (λ (z : ℕ). z * X) e, mul-le-mul_right d h)) p

back : (u d J I X Y : ℕ) → u * I ≡ J * d → 0 < d → u * X ≤ Y * d → J * X ≤ I * Y
back u d J I X Y e p h = le_of_mul-le-mul_right {k = d} (omega (arith, ap (λ (z : ℕ). z * X) e, mul-le-mul_right I h)) p

across_over : (u d J I X Y : ℕ) → u * I ≡ J * d → 0 < I → I * Y ≤ J * X → Y * d ≤ u * X
across_over u d J I X Y e p h = le_of_mul-le-mul_right {k = I} (omega (arith, ap (λ (z : ℕ). z * X) e, mul-le-mul_right d h)) p

back_over : (u d J I X Y : ℕ) → u * I ≡ J * d → 0 < d → Y * d ≤ u * X → I * Y ≤ J * X
back_over u d J I X Y e p h = le_of_mul-le-mul_right {k = d} (omega (arith, ap (λ (z : ℕ). z * X) e, mul-le-mul_right I h)) p

module _ (z : ℤ) {n p q j i : ℕ} where
  pub to_at_most : Diff z j i → Le n i p j q → AtMost n z p q
  to_at_most d f = across_over _ _ _ _ _ _ (same_power z j i d) (pow_pos i) f.le

  pub to_at_least : Diff z j i → Le n j q i p → AtLeast n z p q
  to_at_least d f = across _ _ _ _ _ _ (same_power z j i d) (pow_pos i) f.le

  pub of_at_least : Diff z j i → AtLeast n z p q → Le n j q i p
  of_at_least d f = record { le = back _ _ _ _ _ _ (same_power z j i d) (down_pos z) f }

  of_at_most : Diff z j i → AtMost n z p q → Le n i p j q
  of_at_most d f = record { le = back_over _ _ _ _ _ _ (same_power z j i d) (down_pos z) f }

  pub to_below : Diff z j i → Lt n i p j q → Below n z p q
  to_below d f = lt_of_not-le (λ (g : AtLeast n z p q). not-le_of_lt f.strictly (of_at_least d g).le)

  pub to_above : Diff z j i → Lt n j q i p → Above n z p q
  to_above d f = lt_of_not-le (λ (g : AtMost n z p q). not-le_of_lt f.strictly (of_at_most d g).le)

  pub of_below : Diff z j i → Below n z p q → Lt n i p j q
  of_below d f = record {
    strictly = lt_of_not-le (λ (g : 2 ^ j * q ^ n ≤ 2 ^ i * p ^ n). not-le_of_lt f (to_at_least d (record { le = g })));
  }

pub signed_diff : (s : Bool) (a : ℕ) → Diff (signed s a) (cond s 0 a) (cond s a 0)
signed_diff false a = omega arith
signed_diff true zero = omega arith
signed_diff true (suc a) = omega arith
