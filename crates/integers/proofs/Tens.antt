-- Powers of ten, as the code meets them. Assumes nothing.
use Prim.Native.Nat.{ℕ, ◌^◌, ◌≤◌, ◌<◌}
use native.Mathlib.Nat.{pow-le-pow_right}
use native.Mathlib.Omega.{arith}
use lib.Dec.{lit<}

pub ten_pos : (k : ℕ) → 0 < 10 ^ k
ten_pos k = omega (arith, pow-le-pow_right {n = 10} (lit< tt) {i = 0} {j = k} (omega arith))

pub ten_le : (i j : ℕ) → i ≤ j → 10 ^ i ≤ 10 ^ j
ten_le i j h = pow-le-pow_right {n = 10} (lit< tt) {i = i} {j = j} h
