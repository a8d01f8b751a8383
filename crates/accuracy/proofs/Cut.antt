-- The cut of E's argument: F is (1024 + x) * N rounded down, for N = 2 ^ 52 and x = a / c or -a / c, which is u units of N * W to 1.
-- So F / N - 1024 is x at most, and less than 1 / N below it. Assumes nothing.
use mathlib.Core.Path.{◌≡◌}
use mathlib.Core.Bool.{Bool, true, false, cond}
use Prim.Native.Nat.{ℕ, ◌+◌, ◌-◌, ◌*◌, ◌/◌, ◌≤◌, ◌<◌}
use native.Mathlib.Nat.{mul-le-mul_right, mul-lt-mul_of_pos_right, le_of_mul-le-mul_right, lt_of_mul-lt-mul_right, div-add-mod', mod-lt}
use native.Mathlib.Omega.{arith}
use Rattle.base.specs.Said.{pick}

abbrev pub lifted : Bool → ℕ → ℕ → ℕ
lifted s u M = pick s (1024 * M - u) (1024 * M + u)

module _ (N W u a c : ℕ) (some : 0 < W) (fine : u ≤ 1024 * (N * W)) (is : a * (N * W) ≡ u * c) where
  pub floor_least : (s : Bool) (F : ℕ) → F * W ≤ lifted s u (N * W) → cond s a 0 * N + F * c ≤ 1024 * N * c + cond s 0 a * N
  floor_least false F l = le_of_mul-le-mul_right {k = W} (omega (arith, mul-le-mul_right c l)) some
  floor_least true F l =
      le_of_mul-le-mul_right {k = W} (omega (arith, mul-le-mul_right c (let k : F * W + u ≤ 1024 * (N * W) = omega arith in k))) some

  pub floor_most : (s : Bool) (F : ℕ) → 0 < c → lifted s u (N * W) < (F + 1) * W
      → cond s 0 a * N + 1024 * N * c < (F + 1) * c + cond s a 0 * N
  floor_most false F C l = lt_of_mul-lt-mul_right W (omega (arith, mul-lt-mul_of_pos_right l C))
  floor_most true F C l =
      lt_of_mul-lt-mul_right W (omega (arith, mul-lt-mul_of_pos_right (let k : 1024 * (N * W) < (F + 1) * W + u = omega arith in k) C))

pub floor_between : (U W : ℕ) → 0 < W → (U / W * W ≤ U) × (U < (U / W + 1) * W)
floor_between U W some = let e = div-add-mod' U W in let l = mod-lt U some in omega arith
