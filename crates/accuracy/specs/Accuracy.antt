-- HOW FAR FROM TRUE: what E(x) is worth as 2^x, and L(x) as log2 x (request W4), said over whole numbers. A real power of two is met
-- only in orders with fractions, taken to a whole power: p / q ≤ 2 ^ (z / n) says that p ^ n ≤ 2 ^ z * q ^ n. Assumes nothing.
use Rattle.std.specs.Prelude.{Bool, false, cond, ℕ, ◌+◌, ◌-◌, ◌*◌, ◌^◌, ◌≤◌, ◌<◌, T, ℤ, pos, ◌+ℤ◌, Float}
use Rattle.std.specs.Float.Ieee.{up, down}
use Rattle.std.specs.Float.Ieee.Exact.{HasValue}
use Rattle.std.specs.Float.Ieee.Scale.{finite}
use Rattle.std.specs.Float.Ieee.Positive.{positive}
use Rattle.explog.specs.Rules.{signed}

-- ---- p / q against 2 ^ (z / n), z of either sign: 2 ^ z is up z / down z
abbrev pub AtMost : ℕ → ℤ → ℕ → ℕ → Type 0
AtMost n z p q = p ^ n * down z ≤ up z * q ^ n

abbrev pub AtLeast : ℕ → ℤ → ℕ → ℕ → Type 0
AtLeast n z p q = up z * q ^ n ≤ p ^ n * down z

abbrev pub Below : ℕ → ℤ → ℕ → ℕ → Type 0
Below n z p q = p ^ n * down z < up z * q ^ n

abbrev pub Above : ℕ → ℤ → ℕ → ℕ → Type 0
Above n z p q = up z * q ^ n < p ^ n * down z

-- ---- the cores
-- "P to the power 2^52 is at most 2 to the power 62*2^52 + b, which is less than (P + 512) to the power 2^52"
pub record CoreE (b P : ℕ) : Type 0 where
  pub low : P ^ (2 ^ 52) ≤ 2 ^ (62 * 2 ^ 52 + b)
  pub high : 2 ^ (62 * 2 ^ 52 + b) < (P + 512) ^ (2 ^ 52)

-- "2^V is at most x to the power 2^52, less than 2^(V+2)", for x = m * 2 ^ e, that is m * up e / down e
pub record CoreL (m : ℕ) (e v : ℤ) : Type 0 where
  pub low : AtLeast (2 ^ 52) v (m * up e) (down e)
  pub high : Below (2 ^ 52) (v +ℤ pos 2) (m * up e) (down e)

-- ---- the answers: x is a / c, or -a / c where s is true; r is g / h, or -g / h where t is true
-- r / (1 + 2 ^ -53) ≤ 2 ^ x
abbrev pub LowE : Bool → ℕ → ℕ → ℕ → ℕ → Type 0
LowE s a c g h = AtMost c (signed s a) (g * 2 ^ 53) (h * (2 ^ 53 + 1))

-- 2 ^ x < r * (1 + 2 ^ -51)
abbrev pub HighE : Bool → ℕ → ℕ → ℕ → ℕ → Type 0
HighE s a c g h = Above c (signed s a) (g * (2 ^ 51 + 1)) (h * 2 ^ 51)

-- r - |r| * 2 ^ -53 ≤ log2 x, both times h * 2 ^ 53
abbrev pub LowL : Bool → ℕ → ℕ → ℕ → ℕ → Type 0
LowL t a c g h = AtLeast (h * 2 ^ 53) (signed t (g * cond t (2 ^ 53 + 1) (2 ^ 53 - 1))) a c

-- log2 x < r + |r| * 2 ^ -53 + 2 ^ -51, both times h * 2 ^ 53
abbrev pub HighL : Bool → ℕ → ℕ → ℕ → ℕ → Type 0
HighL t a c g h = Below (h * 2 ^ 53) (signed t (g * cond t (2 ^ 53 - 1) (2 ^ 53 + 1)) +ℤ pos (4 * h)) a c

-- the answer r of E for x, by whatever fractions
pub record AccurateE (x r : Float) : Type 0 where
  pub argument : T (finite x)
  pub answer : T (positive r)
  pub low : (s : Bool) (a c g h : ℕ) → 0 < c → 0 < h → HasValue x s a c → HasValue r false g h → LowE s a c g h
  pub high : (s : Bool) (a c g h : ℕ) → 0 < c → 0 < h → HasValue x s a c → HasValue r false g h → HighE s a c g h

-- the answer r of L for x
pub record AccurateL (x r : Float) : Type 0 where
  pub argument : T (positive x)
  pub answer : T (finite r)
  pub low : (t : Bool) (a c g h : ℕ) → 0 < c → 0 < h → HasValue x false a c → HasValue r t g h → LowL t a c g h
  pub high : (t : Bool) (a c g h : ℕ) → 0 < c → 0 < h → HasValue x false a c → HasValue r t g h → HighL t a c g h
