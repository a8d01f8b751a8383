-- The last arm of a `match` on a number: what was none of 0 up to n is n or more. Assumes nothing.
use mathlib.Core.Path.{◌≡◌}
use Prim.Native.Nat.{ℕ, zero, suc, ◌≤◌}
use native.Mathlib.Omega.{arith}

-- i is none of the numbers below n, as the arms before leave it
abbrev pub Rest : ℕ → ℕ → Type 0
Rest i zero = Unit
Rest i (suc n) = Rest i n × (i ≡ n → ⊥)

pub past : (n i : ℕ) → Rest i n → n ≤ i
past zero i r = omega arith
past (suc n) i r = let a = past n i r.0 in let f = r.1 in omega arith
