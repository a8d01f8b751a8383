-- Whole numbers with a sign: division rounded down, as document 01 has it for keys ("d = q*size + r, 0 <= r < size"),
-- and the range of an i32. Assumes nothing.
use Rattle.std.specs.Prelude.{◌≡◌, Bool, ◌&&◌, ℕ, ◌-◌, ◌/◌, ◌%◌, ◌<◌, ℤ, pos, negsuc, ◌+ℤ◌, ◌*ℤ◌}
use Rattle.std.specs.Int.Signed.{le_z}
use Rattle.base.specs.Numbers.{overflow}
use Rattle.base.specs.Said.{Said, gives, refuses, pick}

-- z is q times s and r more, and r is below s: what it is to divide z by s
pub record Divides (z : ℤ) (s : ℕ) (q : ℤ) (r : ℕ) : Type 0 where
  pub whole : z ≡ q *ℤ pos s +ℤ pos r
  pub rest : r < s

-- the quotient rounded down (negsuc a is -(a + 1))
abbrev pub floor_div : ℤ → ℕ → ℤ
floor_div (pos a) s = pos (a / s)
floor_div (negsuc a) s = negsuc (a / s)

-- what is left, from 0 up to s
abbrev pub floor_mod : ℤ → ℕ → ℕ
floor_mod (pos a) s = a % s
floor_mod (negsuc a) s = s - 1 - a % s

-- -2147483648 <= z <= 2147483647: z is a number of 32 bits
abbrev pub in_i32 : ℤ → Bool
in_i32 z = le_z (negsuc 2147483647) z && le_z z (pos 2147483647)

-- an exact number where 32 bits hold it, else 11
unfoldable pub held : ℤ → Said ℤ
held z = pick (in_i32 z) (gives z) (refuses overflow 0)
