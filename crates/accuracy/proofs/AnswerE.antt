-- From the core to the f64 that E answers: the cut of the argument, P's loss and the last rounding, together. Assumes nothing.
use mathlib.Core.Path.{◌≡◌, refl, sym, ap, subst}
use mathlib.Core.Bool.{Bool, true, false}
use Prim.Native.Nat.{ℕ, ◌+◌, ◌*◌, ◌/◌, ◌%◌, ◌^◌, ◌≤◌, ◌<◌}
use native.Mathlib.Nat.{le_trans, le_of_lt, lt_of_le_of_lt, mul-pos, mul-le-mul, mul-le-mul_left, mul-le-mul_right, le_of_mul-le-mul_left}
use native.Mathlib.Nat.{div-add-mod'}
use native.Mathlib.Omega.{arith}
use lib.Dec.{T, lit≤, lit<}
use lib.Pow.{pow_pos, pow_mono}
use lib.IntN.{pos, ◌-ℤ◌}
use lib.Ieee.{Float, binary64, round, fits}
use lib.Ieee.Exact.{HasValue}
use lib.Ieee.Scale.{finite, grid, normal_of_fraction}
use lib.Ieee.Positive.{positive, positive_of_value}
use Rattle.base.specs.Integers.{floor_div, floor_mod}
use Rattle.floats.specs.Units.{units_of, negative}
use Rattle.floats.proofs.Units.{whole_units}
use Rattle.floats.proofs.Value.{same_value}
use Rattle.rounding.proofs.Scale.{grid_pos}
use Rattle.log_roots.proofs.Ratio.{Le, le_mul, le_of, le_at}
use Rattle.explog.specs.Rules.{signed, floor_of, times_power, in_powers}
use Rattle.explog.proofs.Close.{not_zero}
use Rattle.explog.proofs.Diff.{Diff}
use Rattle.explog.proofs.EndsE.{whole_range}
use Rattle.explog.proofs.LiteralE.{split, times_at, floor_literal}
use Rattle.explog.proofs.Plain.{plain_floor}
use Rattle.explog.proofs.Range.{e_range}
use Rattle.accuracy.specs.Accuracy.{CoreE, AccurateE, LowE, HighE}
use Rattle.accuracy.proofs.Orders.{left_in, right_in, left_out, right_out, of_below_power, of_above_power, strict_at, to_at_most}
use Rattle.accuracy.proofs.Orders.{to_above, signed_diff}
use Rattle.accuracy.proofs.Root.{one_more}
use Rattle.accuracy.proofs.Cut.{lifted, floor_least, floor_most, floor_between}
use Rattle.accuracy.proofs.Rounded.{Rounded, round_value, rounded}

-- ---- on whole numbers: t is 2 ^ n, Z is 2 ^ 1086, and the rounded fraction P * t / Z is g / h
low_part : (A g h Z : ℕ) → 2 ^ 53 * (g * Z) ≤ 2 ^ 53 * (A * h) + A * h → g * 2 ^ 53 * Z * 1 ≤ A * (h * (2 ^ 53 + 1))
low_part A g h Z r = omega arith

-- k is 2 ^ 51: P's loss, 1 / (4 * k), the cut, 3 / (8 * k), and the rounding, 1 / (4 * k), are less than 1 / k together
high_part : (k P t g h Z : ℕ) → 3 ≤ k → 2048 * k ≤ P → 4 * k * (P * t * h) ≤ 4 * k * (g * Z) + P * t * h
    → h * k * ((P + 512) * (8 * k + 3) * t) ≤ 1 * (8 * k) * (g * (k + 1) * Z)
high_part k P t g h Z big low r =
    let Y = P * (t * h) in
    let W = (P + 512) * (t * h) in
    let loss : 4 * k * W ≤ (4 * k + 1) * Y = omega (arith, mul-le-mul_right (t * h) low) in
    let both : (8 * k + 3) * (4 * k * W) ≤ (8 * k + 3) * ((4 * k + 1) * Y) = mul-le-mul_left (8 * k + 3) loss in
    let rest : 8 * (k + 1) * (4 * k * (P * t * h)) ≤ 8 * (k + 1) * (4 * k * (g * Z) + P * t * h) = mul-le-mul_left (8 * (k + 1)) r in
    let room : 11 * Y ≤ 4 * k * Y = mul-le-mul_right Y (let l : 11 ≤ 4 * k = omega arith in l) in
    let all : (8 * k + 3) * W ≤ 8 * (k + 1) * (g * Z) = le_of_mul-le-mul_left {k = 4 * k} (omega arith) (omega arith) in
    omega (arith, mul-le-mul_left k all)

-- ---- the answer against 2 ^ (f / 2 ^ 52), for f + 1024 * 2 ^ 52 = n * 2 ^ 52 + b
module _ (n b P g h : ℕ) (r : Rounded (P * 2 ^ n * h) (g * 2 ^ 1086)) where
  low_bound : (N : ℕ) → Le N 0 P (62 * N + b) 1 → Le N (1086 * N + 0) (g * 2 ^ 53) (n * N + (62 * N + b)) (h * (2 ^ 53 + 1))
  low_bound N f = left_out 1086 (le_of (left_in n f) (lit< tt) (low_part (P * 2 ^ n) g h (2 ^ 1086) r.over_n))

  high_bound : (q : ℕ) → 0 < q → 32 * q ≡ 2 ^ 54 → 2 ^ 62 ≤ P → Le (8 * q) (62 * (8 * q) + b) 1 0 (P + 512)
      → Le (8 * q) (n * (8 * q) + (62 * (8 * q) + b + 1)) (h * 2 ^ 51) (1086 * (8 * q) + 0) (g * (2 ^ 51 + 1))
  high_bound q some is low f =
      right_out 1086 (le_of (right_in n (le_mul f (one_more q some))) (mul-pos (mul-pos (omega arith) (omega arith)) (pow_pos n))
      (subst (λ (z : ℕ). h * 2 ^ 51 * ((P + 512) * (z + 3) * 2 ^ n) ≤ 1 * z * (g * (2 ^ 51 + 1) * 2 ^ 1086)) (sym is)
      (high_part (2 ^ 51) P (2 ^ n) g h (2 ^ 1086) (lit≤ tt) low r.under_n)))

-- ---- P * 2 ^ n / 2 ^ 1086, rounded
module _ (P n : ℕ) (low-p : 2 ^ 62 ≤ P) (high-p : P ≤ 2 ^ 63) (low-n : 124 ≤ n) (high-n : n ≤ 1924) where
  normal : 2 ^ 52 * 2 ^ 1086 ≤ P * 2 ^ n * 2 ^ 1074
  normal = le_trans (lit≤ tt) (mul-le-mul_right (2 ^ 1074) (mul-le-mul low-p (pow_mono low-n)))

  under : P * 2 ^ n * 2 ^ 1074 < 2 ^ 2097 * 2 ^ 1086
  under = lt_of_le_of_lt (mul-le-mul_right (2 ^ 1074) (mul-le-mul high-p (pow_mono high-n))) (lit< tt)

  rounded_power : (g h : ℕ) → HasValue (round binary64 false (P * 2 ^ n) (2 ^ 1086)) false g h
      → Rounded (P * 2 ^ n * h) (g * 2 ^ 1086)
  rounded_power g h v = (rounded _ _ (pow_pos 1086) normal under false false g h v).0

  power_positive : T (positive (round binary64 false (P * 2 ^ n) (2 ^ 1086)))
  power_positive =
      positive_of_value (round binary64 false (P * 2 ^ n) (2 ^ 1086)) (grid binary64 (P * 2 ^ n) (2 ^ 1086)) (2 ^ 1074)
      (round_value _ _ (pow_pos 1086) normal under false)
      (grid_pos binary64 _ _ (pow_pos 1086) (normal_of_fraction binary64 _ _ (pow_pos 1086) normal))

-- ---- any P that has the core, as orders, at F = n * 2 ^ 52 + b
record CoreOrders (N b P : ℕ) : Type 0 where
  below : Le N 0 P (62 * N + b) 1
  above : Le N (62 * N + b) 1 0 (P + 512)

module _ (s : Bool) (u P F : ℕ) (range : u ≤ 900 * 2 ^ 1074) (is : F ≡ lifted s u (2 ^ 1074) / 2 ^ 1022)
    (low-p : 2 ^ 62 ≤ P) (high-p : P ≤ 2 ^ 63) (core : CoreOrders (2 ^ 52) (F % 2 ^ 52) P) where
  abbrev n : ℕ
  n = F / 2 ^ 52

  abbrev b : ℕ
  b = F % 2 ^ 52

  abbrev r : Float
  r = round binary64 false (P * 2 ^ n) (2 ^ 1086)

  wide : (124 ≤ n) × (n ≤ 1924)
  wide = whole_range s u F range is

  r_positive : T (positive r)
  r_positive = power_positive P n low-p high-p wide.0 wide.1

  parts : n * 2 ^ 52 + b ≡ F
  parts = div-add-mod' F (2 ^ 52)

  between : (F * 2 ^ 1022 ≤ lifted s u (2 ^ 1074)) × (lifted s u (2 ^ 1074) < (F + 1) * 2 ^ 1022)
  between = rw is (floor_between _ (2 ^ 1022) (pow_pos 1022))

  module _ (a c g h : ℕ) (C : 0 < c) (H : 0 < h) (e : a * 2 ^ 1074 ≡ u * c) (v : HasValue r false g h) where
    near : Rounded (P * 2 ^ n * h) (g * 2 ^ 1086)
    near = rounded_power P n low-p high-p wide.0 wide.1 g h v

    low_answer : LowE s a c g h
    low_answer =
        let cut = floor_least (2 ^ 52) (2 ^ 1022) u a c (pow_pos 1022) (le_trans range (lit≤ tt)) e s F between.0 in
        to_at_most (signed s a) (signed_diff s a)
        (le_at (2 ^ 52) _ _ _ _ c _ _ (not_zero (2 ^ 52) (lit< tt)) (omega (arith, cut, ap (λ (z : ℕ). z * c) parts))
        (low_bound n b P g h near (2 ^ 52) core.below))

    high_answer : HighE s a c g h
    high_answer =
        let cut = floor_most (2 ^ 52) (2 ^ 1022) u a c (pow_pos 1022) (le_trans range (lit≤ tt)) e s F C between.1 in
        to_above (signed s a) (signed_diff s a)
        (strict_at (2 ^ 52) _ _ _ _ c _ _ (mul-pos H (lit< tt)) (omega (arith, cut, ap (λ (z : ℕ). z * c) parts))
        (high_bound n b P g h near (2 ^ 49) (lit< tt) refl low-p core.above))

-- ---- E's answer is near 2 ^ x whatever P is, if it has the core
module _ (x : Float) (P : ℕ) (fit : T (fits binary64 x)) (in_powers_law : in_powers x ≡ true) (low-p : 2 ^ 62 ≤ P) (high-p : P ≤ 2 ^ 63)
    (core : CoreE (floor_mod (floor_of x) (2 ^ 52)) P) where
  fine : T (finite x)
  fine = (e_range x in_powers_law).0

  range : units_of x ≤ 900 * 2 ^ 1074
  range = (e_range x in_powers_law).1

  abbrev F : ℕ
  F = plain_floor x

  F_is : F ≡ lifted (negative x) (units_of x) (2 ^ 1074) / 2 ^ 1022
  unfolding plain_floor
  F_is = refl

  diff : Diff (floor_of x) F (2 ^ 62)
  diff = floor_literal x fit fine range

  core_at : CoreE (F % 2 ^ 52) P
  core_at = subst (λ (b : ℕ). CoreE b P) (split (floor_of x) F diff).1 core

  orders : CoreOrders (2 ^ 52) (F % 2 ^ 52) P
  orders = record { below = of_below_power core_at.low; above = of_above_power (le_of_lt core_at.high) }

  value : (s : Bool) (a c : ℕ) → HasValue x s a c → (a * 2 ^ 1074 ≡ units_of x * c) × (s ≡ negative x)
  value s a c v = same_value x s (negative x) a c (units_of x) (2 ^ 1074) v (whole_units x fit fine)

  rounded_accurate : AccurateE x (round binary64 false (P * 2 ^ (F / 2 ^ 52)) (2 ^ 1086))
  rounded_accurate = record {
    argument = fine;
    answer = r_positive (negative x) _ P F range F_is low-p high-p orders;
    low = λ s a c g h C H v w.
        subst (λ (t : Bool). LowE t a c g h) (sym (value s a c v).1)
        (low_answer (negative x) _ P F range F_is low-p high-p orders a c g h C H (value s a c v).0 w);
    high = λ s a c g h C H v w.
        subst (λ (t : Bool). HighE t a c g h) (sym (value s a c v).1)
        (high_answer (negative x) _ P F range F_is low-p high-p orders a c g h C H (value s a c v).0 w);
  }

  pub from_core_e : AccurateE x (times_power P (floor_div (floor_of x) (2 ^ 52) -ℤ pos 62))
  from_core_e = subst (AccurateE x) (sym (times_at P (floor_of x) F diff)) rounded_accurate
