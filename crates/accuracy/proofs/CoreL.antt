-- 2 ^ V ≤ x ^ (2 ^ 52) < 2 ^ (V + 2), for x = m * 2 ^ e and L's V, both of either sign. Assumes nothing.
use mathlib.Core.Path.{◌≡◌, refl, sym, ap, ◌∙◌}
use Prim.Native.Nat.{ℕ, suc, ◌+◌, ◌-◌, ◌*◌, ◌^◌, ◌≤◌, ◌<◌}
use native.Mathlib.Nat.{mul-pos, mul-le-mul_left, mul-lt-mul_of_pos_left, le_of_mul-le-mul_right, lt_of_mul-lt-mul_right, one-le-pow}
use native.Mathlib.Nat.{add-zero, zero-add, add-mul}
use native.Mathlib.Omega.{arith}
use lib.Dec.{lit≤, lit<}
use lib.Pow.{pow-add, pow_pos}
use lib.IntN.{ℤ, pos, negsuc, ◌+ℤ◌, ◌*ℤ◌}
use Rattle.powers.specs.Log.{y_of, b_of}
use Rattle.log_roots.proofs.Ratio.{mul_pow, pow_mul, Le}
use Rattle.explog.proofs.Diff.{Diff, add, times, moved}
use Rattle.explog.proofs.Squares.{Turn, turns, bernoulli, end_low, end_high}
use Rattle.accuracy.specs.Accuracy.{CoreL, AtLeast, Below}
use Rattle.accuracy.proofs.Orders.{Lt, to_at_least, to_below}

-- ---- after the turns, for m alone: y is m * 2 ^ σ, M is 2 ^ (τ + σ)
module _ (M N B z m σ τ : ℕ) (is : M ≡ 2 ^ (τ + σ)) (some : 0 < M) (turn : Turn M N B z (m * 2 ^ σ)) where
  abbrev Y : ℕ
  Y = (m * 2 ^ σ) ^ N

  y_is : Y ≡ m ^ N * 2 ^ (σ * N)
  y_is = mul_pow m (2 ^ σ) N ∙ ap (λ (x : ℕ). m ^ N * x) (pow_mul 2 σ N)

  z_is : M ^ N ≡ 2 ^ (τ * N) * 2 ^ (σ * N)
  z_is =
      ap (λ (x : ℕ). x ^ N) is ∙ pow_mul 2 (τ + σ) N ∙ ap (λ (x : ℕ). 2 ^ x) (add-mul τ σ N) ∙ pow-add 2 (τ * N) (σ * N)

  pub low_of : 2 ^ (τ * N + B) ≤ m ^ N
  low_of = rw (pow-add 2 (τ * N) B) (go _ _ _ _ _ _
      (pow_pos (σ * N)) z_is y_is (end_low _ _ _ _ _ some turn.above turn.low))
    where
      go : (X Z Y t s w : ℕ) → 0 < s → Z ≡ t * s → Y ≡ w * s → X * Z ≤ Y → t * X ≤ w
      go X Z Y t s w some e f h = le_of_mul-le-mul_right {k = s} (omega (arith, h, f, ap (λ (x : ℕ). X * x) e)) some

  high_of : (c : ℕ) → N + c ≡ M + 1 → M ≤ 2 * c → m ^ N < 2 ^ (τ * N + (B + 2))
  high_of c sum large = rw (pow-add 2 (τ * N) (B + 2), pow-add 2 B 2) (go _ _ _ _ _ _ z_is y_is
      (end_high _ _ _ _ _ _ _ (mul-pos (pow_pos B) (one-le-pow N M some))
      turn.below turn.high (bernoulli M N c sum)))
    where
      go : (X Z Y t s w : ℕ) → Z ≡ t * s → Y ≡ w * s → Y * c < X * Z * (2 * M) → w < t * (X * 2 ^ 2)
      go X Z Y t s w e f h = lt_of_mul-lt-mul_right (s * c)
          (omega (arith, h, mul-le-mul_left (2 * (X * Z)) large, ap (λ (x : ℕ). x * c) f, ap (λ (x : ℕ). X * x * c) e))

-- ---- with 2 ^ j / 2 ^ i beside it
module _ (N k m i j : ℕ) where
  p_is : (m * 2 ^ j) ^ N ≡ m ^ N * 2 ^ (j * N)
  p_is = mul_pow m (2 ^ j) N ∙ ap (λ (x : ℕ). m ^ N * x) (pow_mul 2 j N)

  pub moved_low : 2 ^ k ≤ m ^ N → Le N (j * N + k) (2 ^ i) (i * N) (m * 2 ^ j)
  moved_low h = record { le = rw (p_is, pow_mul 2 i N, pow-add 2 (j * N) k) (omega (arith, mul-le-mul_left (2 ^ (i * N) * 2 ^ (j * N)) h)) }

  pub moved_high : m ^ N < 2 ^ k → Lt N (i * N) (m * 2 ^ j) (j * N + k) (2 ^ i)
  moved_high h = record {
    strictly = rw (p_is, pow_mul 2 i N, pow-add 2 (j * N) k)
        (omega (arith, mul-lt-mul_of_pos_left {k = 2 ^ (i * N) * 2 ^ (j * N)} h (mul-pos (pow_pos (i * N)) (pow_pos (j * N)))));
  }

-- ---- V, for any e: up e is 2 ^ j, and down e is 2 ^ i
module _ (m : ℕ) (low-m : 2 ^ 52 ≤ m) (high-m : m < 2 ^ 53) where
  abbrev B : ℕ
  B = b_of (m * 2 ^ 10) 52

  turned : Turn (2 ^ 62) (2 ^ 52) B (y_of (m * 2 ^ 10) 52) (m * 2 ^ 10)
  turned = turns (m * 2 ^ 10) (omega arith) (omega arith) 52

  m_low : 2 ^ (52 * 2 ^ 52 + B) ≤ m ^ (2 ^ 52)
  m_low = low_of (2 ^ 62) (2 ^ 52) B (y_of (m * 2 ^ 10) 52) m 10 52 refl (lit< tt) turned

  m_high : m ^ (2 ^ 52) < 2 ^ (52 * 2 ^ 52 + (B + 2))
  m_high = high_of (2 ^ 62) (2 ^ 52) B (y_of (m * 2 ^ 10) 52) m 10 52 refl (lit< tt) turned (2 ^ 62 + 1 - 2 ^ 52) refl (lit≤ tt)

  module _ (e : ℤ) (j i : ℕ) (d : Diff e j i) where
    abbrev v : ℤ
    v = (e +ℤ pos 52) *ℤ pos (2 ^ 52) +ℤ pos B

    v_is : Diff v (j * 2 ^ 52 + (52 * 2 ^ 52 + B)) (i * 2 ^ 52)
    v_is =
        moved v ((j + 52) * 2 ^ 52 + B) ((i + 0) * 2 ^ 52 + 0) (j * 2 ^ 52 + (52 * 2 ^ 52 + B)) (i * 2 ^ 52) (omega arith)
        (add ((e +ℤ pos 52) *ℤ pos (2 ^ 52)) (pos B) ((j + 52) * 2 ^ 52) ((i + 0) * 2 ^ 52) B 0
        (times (e +ℤ pos 52) (j + 52) (i + 0) (2 ^ 52) (add e (pos 52) j i 52 0 d refl)) (sym (add-zero B)))

    v_two : Diff (v +ℤ pos 2) (j * 2 ^ 52 + (52 * 2 ^ 52 + (B + 2))) (i * 2 ^ 52)
    v_two =
        moved (v +ℤ pos 2) (j * 2 ^ 52 + (52 * 2 ^ 52 + B) + 2) (i * 2 ^ 52 + 0)
        (j * 2 ^ 52 + (52 * 2 ^ 52 + (B + 2))) (i * 2 ^ 52) (omega arith)
        (add v (pos 2) (j * 2 ^ 52 + (52 * 2 ^ 52 + B)) (i * 2 ^ 52) 2 0 v_is refl)

    v_low : AtLeast (2 ^ 52) v (m * 2 ^ j) (2 ^ i)
    v_low = to_at_least v v_is (moved_low (2 ^ 52) (52 * 2 ^ 52 + B) m i j m_low)

    v_high : Below (2 ^ 52) (v +ℤ pos 2) (m * 2 ^ j) (2 ^ i)
    v_high = to_below (v +ℤ pos 2) v_two (moved_high (2 ^ 52) (52 * 2 ^ 52 + (B + 2)) m i j m_high)

pub core_l : (m : ℕ) (e : ℤ) → 2 ^ 52 ≤ m → m < 2 ^ 53
    → CoreL m e ((e +ℤ pos 52) *ℤ pos (2 ^ 52) +ℤ pos (b_of (m * 2 ^ 10) 52))
core_l m (pos n) a b =
    record { low = v_low m a b (pos n) n 0 (sym (add-zero n)); high = v_high m a b (pos n) n 0 (sym (add-zero n)) }
core_l m (negsuc n) a b =
    record { low = v_low m a b (negsuc n) 0 (suc n) (zero-add (suc n)); high = v_high m a b (negsuc n) 0 (suc n) (zero-add (suc n)) }
