-- Two results of one input are equal. Document 01, "What the contracts settle". Assumes nothing.
use mathlib.Core.Path.{refl}
use mathlib.Core.Logic.{inl, inr}
use Prim.Native.Nat.{ℕ}
use lib.IntN.{ℤ, ◌+ℤ◌, ◌-ℤ◌}
use Rattle.base.specs.Integers.{floor_div, floor_mod, held}
use Rattle.base.specs.Said.{Said, One, outcome}
use Rattle.base.proofs.Said.{one_result, one_said}

-- every call that answers an i32 or a refusal
pub i32_one : (s : Said ℤ) → One outcome s
i32_one = one_said

pub quotient_one : (z : ℤ) (s : ℕ) → One (λ r. r) (floor_div z s)
quotient_one z s = one_result (floor_div z s)

pub remainder_one : (z : ℤ) (s : ℕ) → One (λ r. r) (floor_mod z s)
remainder_one z s = one_result (floor_mod z s)

pub sum_one : (a b : ℤ) → One (λ r. r) (a +ℤ b)
sum_one a b = one_result (a +ℤ b)

pub difference_one : (a b : ℤ) → One (λ r. r) (a -ℤ b)
difference_one a b = one_result (a -ℤ b)

pub to_i32_one : (z : ℤ) → One outcome (held z)
to_i32_one z = i32_one (held z)
