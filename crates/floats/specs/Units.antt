-- A finite f64 as a whole number of 2 ^ -1074, the smallest value, and its sign. Assumes nothing.
use Rattle.std.specs.Prelude.{◌≡◌, ℕ, ◌*◌, ◌/◌, ◌^◌, ◌<◌, ◌≤◌, Bool, false, Float}
use Rattle.std.specs.Float.{nan, inf, fin}
use Rattle.std.specs.Float.Ieee.{up, down}

-- x's size in units of 2 ^ -1074: a finite f64 is a whole number of them
unfoldable pub units_of : Float → ℕ
units_of nan = 0
units_of (inf s) = 0
units_of (fin s m e) = m * up e * 2 ^ 1074 / down e

-- whether x has the minus sign
unfoldable pub negative : Float → Bool
negative nan = false
negative (inf s) = s
negative (fin s m e) = s

-- x's sign, and its size as d * 2 ^ k units, with 53 digits in d unless k is 0
pub record Unpacked (x : Float) (s : Bool) (d k : ℕ) : Type 0 where
  pub sign : s ≡ negative x
  pub is : units_of x ≡ d * 2 ^ k
  pub small : d < 2 ^ 53
  pub normal : 0 < k → 2 ^ 52 ≤ d
  pub finite : k ≤ 2045
