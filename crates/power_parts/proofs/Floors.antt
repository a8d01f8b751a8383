-- Products in parts of M, each rounded down, against the exact ones. Assumes nothing.
use mathlib.Core.Path.{◌≡◌}
use Prim.Native.Nat.{ℕ, ◌+◌, ◌*◌, ◌/◌, ◌^◌, ◌≤◌, ◌<◌}
use native.Mathlib.Nat.{le_trans, le_of_eq, mul-le-mul, mul-le-mul_left, mul-le-mul_right, le_of_mul-le-mul_right, mul-mul-mul_comm, div-add-mod', mod-lt, le-div_iff_mul-le}
use native.Mathlib.Omega.{arith}
use lib.Dec.{lit<}

-- orders multiplied
pub both : (a Y X K c W N L : ℕ) → a * Y ≤ X * K → c * W ≤ N * L → a * c * (Y * W) ≤ X * N * (K * L)
both a Y X K c W N L h k = le_trans (le_of_eq (mul-mul-mul_comm a c Y W)) (le_trans (mul-le-mul h k) (le_of_eq (mul-mul-mul_comm X K N L)))

-- q is a * b / M, rounded down
pub record Floor (M a b q : ℕ) : Type 0 where
  pub low : q * M ≤ a * b
  pub high : a * b < q * M + M

pub floor : (a b q : ℕ) → q ≡ a * b / 2 ^ 62 → Floor (2 ^ 62) a b q
floor a b q e =
    let d = div-add-mod' (a * b) (2 ^ 62) in
    let m = mod-lt (a * b) {m = 2 ^ 62} (lit< tt) in
    rw e (record { low = omega arith; high = omega arith })

pub at_least : (p g q : ℕ) → q ≡ p * g / 2 ^ 62 → 2 ^ 62 ≤ p → 2 ^ 62 ≤ g → 2 ^ 62 ≤ q
at_least p g q e hp hg = rw e ((le-div_iff_mul-le (lit< tt)).1 (mul-le-mul hp hg))

-- four factors by three roundings, from below
pub three_low : (M A G1 G2 G3 q1 q2 q3 : ℕ) → Floor M A G1 q1 → Floor M G2 G3 q2 → Floor M q1 q2 q3 → q3 * (M * M * M) ≤ A * (G1 * G2 * G3)
three_low M A G1 G2 G3 q1 q2 q3 f1 f2 f3 =
    let a : q1 * q2 * (M * M) ≤ A * (G1 * G2 * G3) = le_trans (both q1 M (A * G1) 1 q2 M (G2 * G3) 1 (omega (arith, f1.low)) (omega (arith, f2.low))) (omega arith) in
    omega (arith, mul-le-mul_right (M * M) f3.low)

-- one factor more
pub more_low : (M A G K D q r : ℕ) → Floor M q D r → q * K ≤ A * G → r * (K * M) ≤ A * (G * D)
more_low M A G K D q r f h = omega (arith, mul-le-mul_right K f.low, mul-le-mul_right D h)

-- two factors that have at most a W-th beyond M: so does, nearly, their product
pub pair_near : (M W G2 G3 q2 : ℕ) → 0 < M → W * G2 ≤ (W + 1) * M → W * G3 ≤ (W + 1) * M → q2 * M ≤ G2 * G3 → W * W * q2 ≤ (W + 1) * (W + 1) * M
pair_near M W G2 G3 q2 pos a2 a3 h =
    let m : W * G2 * (W * G3) ≤ (W + 1) * M * ((W + 1) * M) = mul-le-mul a2 a3 in
    le_of_mul-le-mul_right {k = M} (omega (arith, m, mul-le-mul_left (W * W) h)) pos
