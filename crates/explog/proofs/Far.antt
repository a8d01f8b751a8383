-- How far B is from 0 and from 2 ^ 52: below 2 ^ 63 a square at least doubles the distance from 2 ^ 62, and where every bit is set
-- the quotient of 2 ^ 63 and y is at least squared. Assumes nothing.
use Rattle.std.proofs.Common.{◌≡◌, ℕ, zero, suc, ◌+◌, ◌-◌, ◌*◌, ◌/◌, ◌^◌, ◌<◌, ◌≤◌, Bool, true, false, not, T, leb, ◌⊎◌, sym, refl, ap, ◌∙◌, inl, inr, le_trans, le_of_eq, lt_of_le_of_lt, mul-le-mul_right, mul_assoc, mul_comm, div-lt_iff_lt-mul, add-mul, eq-zero-or-pos, mul-le-mul, mul-pos, one-mul, pow-suc, lt_of_not-le, le-div_iff_mul-le, mul-one, mul-add, mul_right_comm, not-le_of_lt, div-mul-le_self, le_of_mul-le-mul_right, mul_left_comm, arith, lit<, leb→le, pow_pos}
use native.Mathlib.Decide.{dec_le}
use lib.Dec.{nleb→lt}
use Rattle.explog.specs.Log.{squared, halved, y_of, b_of}
use Rattle.powers.specs.Inner.{top_bit}
use Rattle.powers.proofs.Turns.{halved_below, bit_small, b_size}

-- ---- one turn
square_low : (z : ℕ) → 2 ^ 62 ≤ z → 2 ^ 62 + (z - 2 ^ 62) * 2 ≤ squared z
square_low z h =
    let c = z - 2 ^ 62 in
    let e : z * z ≡ z * 2 ^ 62 + z * c = let s : z ≡ 2 ^ 62 + c = omega arith in ap (λ (x : ℕ). z * x) s ∙ mul-add z (2 ^ 62) c in
    let l : 2 ^ 62 * c ≤ z * c = mul-le-mul_right c h in
    (le-div_iff_mul-le (pow_pos 62)).1 (let g : (2 ^ 62 + c * 2) * 2 ^ 62 ≤ z * z = omega arith in g)

square_high : (z : ℕ) → z < 2 ^ 63 → squared z < 2 ^ 64
square_high z h =
    let l : z ≤ 2 ^ 63 - 1 = omega arith in
    (div-lt_iff_lt-mul (pow_pos 62)).1 (lt_of_le_of_lt (mul-le-mul l l) (lit< tt))

-- a bit that is clear or set, and what becomes of the square
data Kind (s : ℕ) : Type 0 where
  clear : top_bit s ≡ 0 → halved s ≡ s → s < 2 ^ 63 → Kind s
  set : top_bit s ≡ 1 → halved s ≡ s / 2 → 2 ^ 63 ≤ s → Kind s

kind : (s : ℕ) → Kind s
kind s = go (leb (2 ^ 63) s) refl (leb→le (2 ^ 63) s) (nleb→lt (2 ^ 63) s)
  where
    go : (b : Bool) → leb (2 ^ 63) s ≡ b → (T b → 2 ^ 63 ≤ s) → (T (not b) → s < 2 ^ 63) → Kind s
    go true e f g = set (rw e) (rw e) (f tt)
    go false e f g = clear (rw e) (rw e) (g tt)

-- q is a half of z * z / (N / 2), rounded down: where z is at most N * N / (N + W), q is at most N * N / (N + 2 W)
squared_bound : (N W z q : ℕ) → 0 < N → q * N ≤ z * z → z * (N + W) ≤ N * N → q * (N + W * 2) ≤ N * N
squared_bound N W z q p h k =
    let a : (N + W * 2) * N ≤ (N + W) * (N + W) =
    omega (arith, add-mul N (W * 2) N, mul_right_comm W 2 N, add-mul N W (N + W), mul-add N N W, mul-add W N W, mul_comm N W) in
    le_of_mul-le-mul_right
    (le_trans (le_of_eq (simp (mul_assoc, mul_comm, mul_left_comm)))
    (le_trans (mul-le-mul h a) (le_trans (le_of_eq (simp (mul_assoc, mul_comm, mul_left_comm))) (mul-le-mul k k))))
    (mul-pos p p)

-- one turn, by its kind: z is y after k turns, and B the bits
low_next : (z : ℕ) → 2 ^ 62 ≤ z → Kind (squared z) → 2 ^ 62 ≤ halved (squared z)
low_next z h (clear t e l) = rw e (omega (arith, square_low z h))
low_next z h (set t e l) = rw e (omega arith)

zeros_next : (c p z B : ℕ) → 2 ^ 62 ≤ z → 2 ^ 62 + c * p ≤ z → Kind (squared z) → B * 2 + top_bit (squared z) ≡ 0 → 2 ^ 62 + c * (p * 2) ≤ halved (squared z)
zeros_next c p z B h i (clear t e l) b = rw e (omega (arith, square_low z h, mul_assoc c p 2))
zeros_next c p z B h i (set t e l) b = absurd (omega arith)

ones_next : (w p z B : ℕ) → B < p → z * (2 ^ 63 + w * p) ≤ 2 ^ 126 → Kind (squared z) → B * 2 + top_bit (squared z) + 1 ≡ p * 2 → halved (squared z) * (2 ^ 63 + w * (p * 2)) ≤ 2 ^ 126
ones_next w p z B u i (clear t e l) b = absurd (omega arith)
ones_next w p z B u i (set t e l) b =
    let s = squared z in
    let q : s / 2 * 2 ^ 63 ≤ z * z = le_trans (let r : s / 2 * 2 ^ 63 ≤ s * 2 ^ 62 = omega arith in r) (div-mul-le_self (z * z) (2 ^ 62)) in
    rw (e, ← mul_assoc w p 2) (squared_bound (2 ^ 63) (w * p) z (s / 2) (lit< tt) q i)

module _ (y : ℕ) (low : 2 ^ 62 ≤ y) (high : y < 2 ^ 63) where
  y_high : (k : ℕ) → y_of y k < 2 ^ 63
  unfolding y_of
  y_high zero = high
  y_high (suc k) = halved_below (squared (y_of y k)) (square_high (y_of y k) (y_high k))

  y_low : (k : ℕ) → 2 ^ 62 ≤ y_of y k
  unfolding y_of
  y_low zero = low
  y_low (suc k) = low_next (y_of y k) (y_low k) (kind (squared (y_of y k)))

  -- ---- the bits of the first turns, and those of more turns
  b_more : (j i : ℕ) → b_of y j * 2 ^ i ≤ b_of y (i + j)
  unfolding b_of
  b_more j zero = le_of_eq (mul-one (b_of y j) ∙ ap (b_of y) (let e : j ≡ 0 + j = omega arith in e))
  b_more j (suc i) =
      let e : suc i + j ≡ suc (i + j) = omega arith in
      rw (e, pow-suc 2 i) (omega (arith, b_more j i, mul_assoc (b_of y j) (2 ^ i) 2))

  b_less : (j i : ℕ) → b_of y (i + j) < (b_of y j + 1) * 2 ^ i
  unfolding b_of
  b_less j zero =
      let e : 0 + j ≡ j = omega arith in
      rw (e, mul-one (b_of y j + 1)) (omega arith)
  b_less j (suc i) =
      let e : suc i + j ≡ suc (i + j) = omega arith in
      rw (e, pow-suc 2 i) (omega (arith, b_less j i, mul_assoc (b_of y j + 1) (2 ^ i) 2, bit_small (squared (y_of y (i + j)))))

  -- ---- no bit set: the distance from 2 ^ 62 doubles
  zeros : (k : ℕ) → b_of y k ≡ 0 → 2 ^ 62 + (y - 2 ^ 62) * 2 ^ k ≤ y_of y k
  unfolding y_of b_of
  zeros zero h = omega (arith, mul-one (y - 2 ^ 62))
  zeros (suc k) h =
      rw (pow-suc 2 k) (zeros_next (y - 2 ^ 62) (2 ^ k) (y_of y k) (b_of y k) (y_low k) (zeros k (omega arith)) (kind (squared (y_of y k))) h)

  -- ---- every bit set: 2 ^ 63 / y is squared
  ones : (w : ℕ) → y * (2 ^ 63 + w) ≤ 2 ^ 126 → (k : ℕ) → b_of y k + 1 ≡ 2 ^ k → y_of y k * (2 ^ 63 + w * 2 ^ k) ≤ 2 ^ 126
  unfolding y_of b_of
  ones w g zero h = le_trans (le_of_eq (ap (λ (x : ℕ). y * (2 ^ 63 + x)) (mul-one w))) g
  ones w g (suc k) h =
      let f = rw (pow-suc 2 k) at h in
      rw (pow-suc 2 k)
      (ones_next w (2 ^ k) (y_of y k) (b_of y k) (b_size y k) (ones w g k (omega (arith, b_size y k, bit_small (squared (y_of y k))))) (kind (squared (y_of y k))) f)

  -- ---- what it takes to have one of the first j bits set, and one of the first 20 clear
  pub bits_above : (j i c : ℕ) → 2 ^ 62 + c ≤ y → 2 ^ 62 ≤ c * 2 ^ j → 2 ^ i ≤ b_of y (i + j)
  bits_above j i c h g = go (eq-zero-or-pos (b_of y j))
    where
      go : (b_of y j ≡ 0) ⊎ (0 < b_of y j) → 2 ^ i ≤ b_of y (i + j)
      go (inl z) =
          let l : c * 2 ^ j ≤ (y - 2 ^ 62) * 2 ^ j = mul-le-mul_right (2 ^ j) (let m : c ≤ y - 2 ^ 62 = omega arith in m) in
          absurd (omega (arith, zeros j z, y_high j))
      go (inr p) = le_trans (le_of_eq (sym (one-mul (2 ^ i)))) (le_trans (mul-le-mul_right (2 ^ i) p) (b_more j i))

  pub bits_below : y * (2 ^ 63 + (2 ^ 43 + 1)) ≤ 2 ^ 126 → b_of y 52 + 2 ^ 32 ≤ 2 ^ 52
  bits_below h = go (dec_le (b_of y 20 + 2) (2 ^ 20))
    where
      full : b_of y 20 + 1 ≡ 2 ^ 20 → ⊥
      full e =
          let m : 2 ^ 62 * (2 ^ 63 + (2 ^ 43 + 1) * 2 ^ 20) ≤ 2 ^ 126 = le_trans (mul-le-mul_right (2 ^ 63 + (2 ^ 43 + 1) * 2 ^ 20) (y_low 20)) (ones (2 ^ 43 + 1) h 20 e) in
          not-le_of_lt (lit< tt) m

      go : Dec (b_of y 20 + 2 ≤ 2 ^ 20) → b_of y 52 + 2 ^ 32 ≤ 2 ^ 52
      go (yes l) = omega (arith, b_less 20 32, mul-le-mul_right (2 ^ 32) l, add-mul (b_of y 20) 1 (2 ^ 32), add-mul (b_of y 20) 2 (2 ^ 32))
      go (no n) = absurd (full (let l = lt_of_not-le n in omega (arith, b_size y 20)))
