-- EACH TERM IS NEEDED: without it, or with less of it, the statement of specs/Accuracy is false, at a number. For each such statement there
-- is what E or L, or a step of theirs, makes of the number, and the order that denies it. Assumes nothing.
use mathlib.Core.Path.{◌≡◌, refl, subst}
use mathlib.Core.Bool.{true, false}
use Prim.Native.Nat.{ℕ, zero, suc, ◌+◌, ◌-◌, ◌*◌, ◌/◌, ◌^◌, ◌≤◌, ◌<◌}
use native.Mathlib.Nat.{mul-le-mul_right, le_of_mul-le-mul_right, lt_of_mul-lt-mul_right, mul-lt-mul_of_pos_left, one-le-pow}
use native.Mathlib.Omega.{arith}
use lib.Dec.{leb, lit≤, lit<}
use lib.Pow.{pow-add, pow_pos}
use lib.IntN.{pos, negsuc, ◌+ℤ◌}
use lib.Ieee.{fin, le, round, size, of_bits, neg}
use Rattle.base.specs.Said.{gives, pick}
use Rattle.log_roots.proofs.Ratio.{Le, le_at, pow_mul}
use Rattle.log_roots.proofs.Halving.{same}
use Rattle.explog.specs.Exp.{t_of, p_of}
use Rattle.explog.specs.Log.{y_of, b_of}
use Rattle.explog.specs.Root.{root, root_from}
use Rattle.explog.specs.Rules.{E, L, floor_of, power_of, times_power, log_of, log_at, octaves_of}
use Rattle.explog.specs.Samples.{power_of_minus_half}
use Rattle.explog.proofs.Close.{bern_low, not_zero}
use Rattle.explog.proofs.Squares.{turned, bernoulli}
use Rattle.accuracy.specs.Accuracy.{AtMost, AtLeast, Below, Above}
use Rattle.accuracy.proofs.CoreL.{low_of, moved_low, moved_high}
use Rattle.accuracy.proofs.Orders.{power_le, lt_at, to_at_most, to_at_least, to_below}

-- ---- CoreE's 512, by 2: 2 ^ (62 * 2 ^ 52 + b) is (P + 2) ^ (2 ^ 52) at least at b = 3 * 2 ^ 49; both are powers of 2 ^ 49
lossy : p_of (3 * 2 ^ 49) 52 ≡ 5980616842327661683
unfolding p_of t_of root root_from
lossy = refl

pub more_is_needed : (p_of (3 * 2 ^ 49) 52 ≡ 5980616842327661683)
    × ((5980616842327661683 + 2) ^ (2 ^ 52) ≤ 2 ^ (62 * 2 ^ 52 + 3 * 2 ^ 49))
more_is_needed = (lossy, power_le (5980616842327661683 + 2) 8 499 (2 ^ 49) (lit≤ tt))

-- ---- L's turns with 80 binary places, where L has 62: m / 2 ^ 52 is 2 ^ (B / 2 ^ k) at least
y_at : ℕ → ℕ → ℕ
y_at y zero = y
y_at y (suc k) = pick (leb (2 ^ 81) (y_at y k * y_at y k / 2 ^ 80)) (y_at y k * y_at y k / 2 ^ 80 / 2) (y_at y k * y_at y k / 2 ^ 80)

b_at : ℕ → ℕ → ℕ
b_at y zero = 0
b_at y (suc k) = b_at y k * 2 + pick (leb (2 ^ 81) (y_at y k * y_at y k / 2 ^ 80)) 1 0

finer : (m k B : ℕ) → 2 ^ 52 ≤ m → m < 2 ^ 53 → b_at (m * 2 ^ 28) k ≡ B → 2 ^ (52 * 2 ^ k + B) ≤ m ^ (2 ^ k)
unfolding b_at y_at
finer m k B a b e =
    let y = m * 2 ^ 28 in
    subst (λ (B : ℕ). 2 ^ (52 * 2 ^ k + B) ≤ m ^ (2 ^ k)) e
    (low_of (2 ^ 80) (2 ^ k) (b_at y k) (y_at y k) m 28 52 refl (lit< tt)
    (turned (2 ^ 80) y (y_at y) (b_at y) (lit< tt) (omega arith) (omega arith) refl refl (λ k. (refl, refl)) k))

-- ---- CoreL's 2, by 1: 2 ^ (V + 1) ≤ x ^ (2 ^ 52) at x = 7967944837040456 * 2 ^ -52 = 1.769239163405091
short : b_of (7967944837040456 * 2 ^ 10) 52 ≡ 3707043830640586
unfolding b_of y_of
short = refl

one_above : b_at (7967944837040456 * 2 ^ 28) 52 ≡ 3707043830640587
unfolding b_at y_at
one_above = refl

pub two_is_needed : (b_of (7967944837040456 * 2 ^ 10) 52 ≡ 3707043830640586)
    × AtLeast (2 ^ 52) (pos 3707043830640586 +ℤ pos 1) (7967944837040456 * 1) (2 ^ 52)
two_is_needed = (
  short,
  to_at_least (pos 3707043830640586 +ℤ pos 1) {j = 0 * 2 ^ 52 + (52 * 2 ^ 52 + 3707043830640587)} {i = 52 * 2 ^ 52} refl
      (moved_low (2 ^ 52) (52 * 2 ^ 52 + 3707043830640587) 7967944837040456 52 0
      (finer 7967944837040456 52 3707043830640587 (lit≤ tt) (lit< tt) one_above)),
)

-- ---- HighL's 2 ^ -51, by 2 ^ -52: r + |r| * 2 ^ -53 + 2 ^ -52 ≤ log2 x at x = 4503599629186098 * 2 ^ -52 = 1.0000000004031446
near_one : L (fin false 2251799814593049 (negsuc 50)) ≡ gives (fin false 2619359 (negsuc 51))
unfolding L log_of log_at octaves_of b_of y_of le round size of_bits
near_one = refl

ten_places : b_at (4503599629186098 * 2 ^ 28) 62 ≡ 2619360 * 2 ^ 10 + 1
unfolding b_at y_at
ten_places = refl

pub loss_is_needed : (L (fin false 2251799814593049 (negsuc 50)) ≡ gives (fin false 2619359 (negsuc 51)))
    × AtLeast (2 ^ 52 * 2 ^ 53) (pos (2619359 * (2 ^ 53 + 1)) +ℤ pos (2 * 2 ^ 52)) (4503599629186098 * 1) (2 ^ 52)
loss_is_needed = (
  near_one,
  to_at_least (pos (2619359 * (2 ^ 53 + 1)) +ℤ pos (2 * 2 ^ 52)) {j = 2619359 * (2 ^ 53 + 1) + 2 * 2 ^ 52} {i = 0} refl
      (le_at (2 ^ 62) _ (52 * 2 ^ 62) _ _ (2 ^ 52 * 2 ^ 53) _ _ (not_zero (2 ^ 62) (lit< tt)) (lit≤ tt)
      (moved_low (2 ^ 62) (52 * 2 ^ 62 + (2619360 * 2 ^ 10 + 1)) 4503599629186098 52 0
      (finer 4503599629186098 62 (2619360 * 2 ^ 10 + 1) (lit≤ tt) (lit< tt) ten_places))),
)

-- ---- 1 + 1 / W, to a power
doubled : (W t : ℕ) → 0 < W → W ≤ t → W ^ t * 2 ≤ (W + 1) ^ t
doubled W t some h = le_of_mul-le-mul_right {k = W} (omega (arith, bern_low W 1 t, mul-le-mul_right (W ^ t) h)) some

not_doubled : (W t c : ℕ) → 0 < W → t + c ≡ W + 1 → W + 1 < 2 * c → (W + 1) ^ t < W ^ t * 2
not_doubled W t c some sum h =
    let below : W ^ t * (W + 1) < W ^ t * (2 * c) = mul-lt-mul_of_pos_left h (one-le-pow t W some) in
    lt_of_mul-lt-mul_right c (omega (arith, bernoulli W t c sum))

-- ---- HighE's 2 ^ -51, by 2 ^ -52: r * (1 + 2 ^ -52) ≤ 2 ^ x at x = -2 ^ -1074, where the cut is a whole 2 ^ -52
least_power : E (fin true 1 (negsuc 1073)) ≡ gives (fin false 4503599627370495 (negsuc 51))
unfolding E floor_of power_of times_power t_of root root_from p_of le round of_bits neg
least_power = refl

pub cut_is_needed : (E (fin true 1 (negsuc 1073)) ≡ gives (fin false 4503599627370495 (negsuc 51)))
    × AtMost (2 ^ 1074) (negsuc 0) (4503599627370495 * (2 ^ 52 + 1)) (2 ^ 52 * 2 ^ 52)
cut_is_needed = (least_power, to_at_most (negsuc 0) {j = 0} {i = 1} refl (twice (2 ^ 104 - 1) (2 ^ 1074) (lit< tt) (lit≤ tt)))
  where
    twice : (W t : ℕ) → 0 < W → W ≤ t → Le t 1 W 0 (W + 1)
    twice W t some h = record { le = omega (arith, doubled W t some h) }

-- ---- LowE's 2 ^ -53, by nothing: 2 ^ x < r at x = -1/2, where the rounding is up
pub rounding_is_needed : (E (fin true 1 (negsuc 0)) ≡ gives (fin false 6369051672525773 (negsuc 52)))
    × Above 2 (negsuc 0) (6369051672525773 * 2 ^ 53) (2 ^ 53 * 2 ^ 53)
rounding_is_needed = (power_of_minus_half, lit< tt)

-- ---- LowL's |r| * 2 ^ -53, by nothing: log2 x < r at x = 2 ^ 512 * (1 + 2 ^ -44), where r is 512 + 2 ^ -43
log_up : L (fin false (2 ^ 44 + 1) (pos 468)) ≡ gives (fin false (2 ^ 52 + 1) (negsuc 42))
unfolding L log_of log_at octaves_of b_of y_of le round size of_bits
log_up = refl

power_under : (τ n c : ℕ) → n + c ≡ 2 ^ τ + 1 → 2 ^ τ + 1 < 2 * c → (2 ^ τ + 1) ^ n < 2 ^ (τ * n + 1)
power_under τ n c sum h = rw (pow-add 2 (τ * n) 1, ← pow_mul 2 τ n) (not_doubled (2 ^ τ) n c (pow_pos τ) sum h)

pub log_up_is_needed : (L (fin false (2 ^ 44 + 1) (pos 468)) ≡ gives (fin false (2 ^ 52 + 1) (negsuc 42)))
    × Below (2 ^ 43 * 2 ^ 53) (pos ((2 ^ 52 + 1) * 2 ^ 53)) ((2 ^ 44 + 1) * 2 ^ 468) 1
log_up_is_needed = (
  log_up,
  to_below (pos ((2 ^ 52 + 1) * 2 ^ 53)) {j = (2 ^ 52 + 1) * 2 ^ 53} {i = 0} refl
      (lt_at (2 ^ 43) _ (468 * 2 ^ 43 + (44 * 2 ^ 43 + 1)) _ _ (2 ^ 43 * 2 ^ 53) _ _ (not_zero (2 ^ 43 * 2 ^ 53) (lit< tt)) (lit≤ tt)
      (moved_high (2 ^ 43) (44 * 2 ^ 43 + 1) (2 ^ 44 + 1) 0 468 (power_under 44 (2 ^ 43) (2 ^ 43 + 1) refl (lit< tt)))),
)

-- ---- LowL's at most: both are 0 at x = 1
one_log : L (fin false 1 (pos 0)) ≡ gives (fin false 0 (pos 0))
unfolding L log_of log_at octaves_of b_of y_of le round size of_bits
one_log = refl

pub equal_is_met : (L (fin false 1 (pos 0)) ≡ gives (fin false 0 (pos 0))) × AtMost (1 * 2 ^ 53) (pos (0 * (2 ^ 53 - 1))) 1 1
equal_is_met = (one_log, to_at_most (pos 0) {j = 0} {i = 0} refl (same (1 * 2 ^ 53) 1))

-- ---- HighL's |r| * 2 ^ -53, by nothing: r + 2 ^ -51 ≤ log2 x at x = 2 ^ 512 * (1 + 2 ^ -45), where r is 512
log_down : L (fin false (2 ^ 45 + 1) (pos 467)) ≡ gives (fin false 1 (pos 9))
unfolding L log_of log_at octaves_of b_of y_of le round size of_bits
log_down = refl

power_over : (τ n : ℕ) → 2 ^ τ ≤ n → 2 ^ (τ * n + 1) ≤ (2 ^ τ + 1) ^ n
power_over τ n h = rw (pow-add 2 (τ * n) 1, ← pow_mul 2 τ n) (doubled (2 ^ τ) n (pow_pos τ) h)

pub log_down_is_needed : (L (fin false (2 ^ 45 + 1) (pos 467)) ≡ gives (fin false 1 (pos 9)))
    × AtLeast (1 * 2 ^ 53) (pos (512 * 2 ^ 53) +ℤ pos (4 * 1)) ((2 ^ 45 + 1) * 2 ^ 467) 1
log_down_is_needed = (
  log_down,
  to_at_least (pos (512 * 2 ^ 53) +ℤ pos (4 * 1)) {j = 512 * 2 ^ 53 + 4} {i = 0} refl
      (le_at (2 ^ 51) (467 * 2 ^ 51 + (45 * 2 ^ 51 + 1)) _ _ _ (1 * 2 ^ 53) _ _ (not_zero (2 ^ 51) (lit< tt)) (lit≤ tt)
      (moved_low (2 ^ 51) (45 * 2 ^ 51 + 1) (2 ^ 45 + 1) 0 467 (power_over 45 (2 ^ 51) (lit≤ tt)))),
)
