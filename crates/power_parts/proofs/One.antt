-- What a part of E's steps multiplies by, rounded down, is one number, and so is what it adds. Assumes nothing.
use mathlib.Core.Path.{◌≡◌, sym, ◌∙◌}
use Prim.Native.Nat.{ℕ, ◌+◌, ◌*◌, ◌≤◌, ◌<◌}
use native.Mathlib.Nat.{lt_of_le_of_lt, lt_of_mul-lt-mul_right}
use native.Mathlib.Omega.{arith}
use Rattle.power_parts.specs.Parts.{Part, Rise}

-- of two numbers that are x over K, rounded down, neither is above the other
not_above : (x K r s : ℕ) → r * K ≤ x → x < (s + 1) * K → r ≤ s
not_above x K r s low high = let h : r < s + 1 = lt_of_mul-lt-mul_right K (lt_of_le_of_lt low high) in omega arith

pub part_one : (b s n q r : ℕ) → Part b s n q → Part b s n r → q ≡ r
part_one b s n q r u v =
    let low : q ≤ r = not_above _ _ q r u.low v.high in
    let high : r ≤ q = not_above _ _ r q v.low u.high in
    omega arith

pub rise_one : (b s n q r : ℕ) → Rise b s n q → Rise b s n r → q ≡ r
rise_one b s n q r u v = u.is ∙ sym v.is
