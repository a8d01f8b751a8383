-- Document 01, "Writing", said without a writer: which text a number with d decimals has. Assumes nothing.
use Rattle.std.specs.Prelude.{◌≡◌, List, ◌++◌, Bool, ◌⊎◌, ℕ, ◌<◌, length, get_or, Float}
use Rattle.floats.specs.Units.{negative}
use Rattle.integers.specs.Digits.{AllDigits, decimal}
use Rattle.printing.specs.PrintText.{sign_text, point_text, scaled_of}

-- t is n / 10^d with d decimals: the sign, the whole part with no zero before other digits, and d digits after a dot
pub record FixedText (d : ℕ) (minus plus : Bool) (n : ℕ) (t : List ℕ) : Type 0 where
  pub whole : List ℕ
  pub part : List ℕ
  pub text : t ≡ sign_text minus plus ++ (whole ++ (point_text d ++ part))
  pub first : AllDigits whole
  pub second : AllDigits part
  pub some : 0 < length whole
  pub lean : (length whole ≡ 1) ⊎ (get_or whole 0 0 ≡ 48 → ⊥)
  pub places : length part ≡ d
  pub value : decimal (whole ++ part) ≡ n

-- t is x with d decimals, from the exact value, ties to even, the sign kept
pub record Printed (d : ℕ) (plus : Bool) (x : Float) (t : List ℕ) : Type 0 where
  pub is : FixedText d (negative x) plus (scaled_of d x) t
