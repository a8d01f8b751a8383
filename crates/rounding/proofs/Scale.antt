-- Multiplying by a power of two goes through rounding. Assumes nothing.
use Rattle.std.proofs.Common.{◌≡◌, ℕ, suc, ◌+◌, ◌-◌, ◌*◌, ◌/◌, ◌%◌, ◌^◌, ◌<◌, ◌≤◌, false, sym, ap, ◌∙◌, subst, le_trans, le_of_eq, lt_of_le_of_lt, mul-le-mul_right, mul_assoc, suc-mul, mul_comm, div-lt_iff_lt-mul, mul-le-mul_left, mul-lt-mul_of_pos_right, mul-pos, one-mul, le-div_iff_mul-le, mul-one, div-mul-le_self, mul_left_comm, arith, lit<, pow_pos}
use Prim.Native.Nat.{compare}
use native.Mathlib.Nat.{div-div-eq-div-mul}
use lib.Ieee.Exact.{HasValue}
use lib.Ieee.{Float, Format, binary64, prec, low, size, round, mul}
use lib.Ieee.Fits.{round-fits, two, two-le_pos, nearest-le}
use lib.Ieee.Digits.{size_reaches}
use lib.Ieee.Nearest.{closest, nearest-ge}
use lib.Ieee.Scale.{round_same, grid, overflow, round_val, grid_scale, normal_of_fraction}
use lib.Ieee.Positive.{mul_at, positive_of_value}
use lib.Ieee.Order.{drop}
use Rattle.floats.proofs.Value.{round_again}

-- how large a rounded fraction in the normal range is
under_size : (z p : ℕ) → 0 < p → p ≤ z → z - p < z
under_size z p P h = omega arith

reaches : (f : Format) (n c : ℕ) → prec f ≤ size (n / c) → 2 ^ drop (prec f) n c ≤ n / c
reaches f n c N = size_reaches (n / c) (drop (prec f) n c) (under_size (size (n / c)) (prec f) (two-le_pos (prec f) (two f)) N)

pub grid_pos : (f : Format) (a c : ℕ) → 0 < c → prec f ≤ size (a * 2 ^ low f / c) → 0 < grid f a c
grid_pos f a c C N =
    let n = a * 2 ^ low f in
    let k = drop (prec f) n c in
    let u = c * 2 ^ k in
    let h : 1 * u ≤ n = le_trans (le_of_eq (one-mul u ∙ mul_comm c (2 ^ k))) ((le-div_iff_mul-le C).0 (reaches f n c N)) in
    mul-pos (le_trans ((le-div_iff_mul-le (mul-pos C (pow_pos k))).1 h) (nearest-ge (n / u) (compare (n % u * 2) u))) (pow_pos k)

pub grid_le : (f : Format) (a c : ℕ) → 0 < c → prec f ≤ size (a * 2 ^ low f / c) → grid f a c ≤ a * 2 ^ low f / c * 2
grid_le f a c C N =
    let n = a * 2 ^ low f in
    let k = drop (prec f) n c in
    let u = c * 2 ^ k in
    let h : closest n u ≤ suc (n / u) = nearest-le (n / u) (compare (n % u * 2) u) in
    let d : n / u * 2 ^ k ≤ n / c = le_trans (le_of_eq (ap (λ (z : ℕ). z * 2 ^ k) (sym (div-div-eq-div-mul n c (2 ^ k))))) (div-mul-le_self (n / c) (2 ^ k)) in
    let r = reaches f n c N in
    let e : suc (n / u) * 2 ^ k ≡ n / u * 2 ^ k + 2 ^ k = suc-mul (n / u) (2 ^ k) in
    le_trans (mul-le-mul_right (2 ^ k) h) (omega arith)

-- a fraction below 2 ^ 1023 does not overflow
pub not_over : (a c : ℕ) → 0 < c → 2 ^ 52 * c ≤ a * 2 ^ 1074 → a * 2 ^ 1074 < 2 ^ 2097 * c → grid binary64 a c < overflow binary64
not_over a c C normal h =
    let d : a * 2 ^ 1074 / c < 2 ^ 2097 = (div-lt_iff_lt-mul C).1 h in
    lt_of_le_of_lt (grid_le binary64 a c C (normal_of_fraction binary64 a c C normal)) (mul-lt-mul_of_pos_right d (lit< tt))

times_normal : (a c t : ℕ) → 2 ^ 52 * c ≤ a * 2 ^ 1074 → 2 ^ 52 * c ≤ a * 2 ^ t * 2 ^ 1074
times_normal a c t h = le_trans h (mul-le-mul_right (2 ^ 1074) (le_trans (le_of_eq (sym (mul-one a))) (mul-le-mul_left a (pow_pos t))))

-- a rounded fraction times 2 ^ (u - t) is the fraction times that, rounded
pub scale : (a c t u : ℕ) (y : Float) → 0 < c → 2 ^ 52 * c ≤ a * 2 ^ 1074
    → a * 2 ^ t * 2 ^ 1074 < 2 ^ 2097 * c → a * 2 ^ u * 2 ^ 1074 < 2 ^ 2097 * c
    → HasValue y false (2 ^ u) (2 ^ t) → mul binary64 (round binary64 false (a * 2 ^ t) c) y ≡ round binary64 false (a * 2 ^ u) c
scale a c t u y C normal ot ou v =
    let f = binary64 in
    let g = grid f a c in
    let N = normal_of_fraction f a c C normal in
    let vx : HasValue (round f false (a * 2 ^ t) c) false (g * 2 ^ t) (2 ^ 1074) =
    subst (λ (z : ℕ). HasValue (round f false (a * 2 ^ t) c) false z (2 ^ 1074)) (grid_scale f a c t C N) (round_val f (a * 2 ^ t) c (not_over (a * 2 ^ t) c C (times_normal a c t normal) ot)) in
    let vz : HasValue (round f false (a * 2 ^ u) c) false (g * 2 ^ u) (2 ^ 1074) =
    subst (λ (z : ℕ). HasValue (round f false (a * 2 ^ u) c) false z (2 ^ 1074)) (grid_scale f a c u C N) (round_val f (a * 2 ^ u) c (not_over (a * 2 ^ u) c C (times_normal a c u normal) ou)) in
    let px = positive_of_value (round f false (a * 2 ^ t) c) (g * 2 ^ t) (2 ^ 1074) vx (mul-pos (grid_pos f a c C N) (pow_pos t)) in
    let py = positive_of_value y (2 ^ u) (2 ^ t) v (pow_pos u) in
    mul_at f (round f false (a * 2 ^ t) c) y (g * 2 ^ t) (2 ^ 1074) (2 ^ u) (2 ^ t) px py (pow_pos 1074) (pow_pos t) vx v
    ∙ round_same f false (g * 2 ^ t * 2 ^ u) (2 ^ 1074 * 2 ^ t) (g * 2 ^ u) (2 ^ 1074) (mul-pos (pow_pos 1074) (pow_pos t)) (pow_pos 1074) (simp (mul_assoc, mul_comm, mul_left_comm))
    ∙ round_again (round f false (a * 2 ^ u) c) false (g * 2 ^ u) (2 ^ 1074) (pow_pos 1074) (round-fits f false (a * 2 ^ u) c) vz
