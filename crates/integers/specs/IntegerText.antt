-- Document 01, "Lines": "Integer: optional `+` (`-` only for signed types), then one or more digits, within the type."
-- Which texts are integers of a type, and of what value; no reader is named here. Assumes nothing.
use Rattle.std.specs.Prelude.{◌≡◌, List, ◌∷◌, Bool, true, ℕ, ◌≤◌, ◌<◌, length, ℤ, pos, neg_ℤ}
use Rattle.integers.specs.Digits.{decimal, AllDigits}

-- one or more digits, which write n
pub record Digits (s : List ℕ) (n : ℕ) : Type 0 where
  pub some : 0 < length s
  pub each : AllDigits s
  pub writes : n ≡ decimal s

-- s is an integer of value z, of a type that holds the numbers below top and, if signed, those from -top on:
-- digits alone, digits after `+` (43), or digits after `-` (45)
pub data IntText (signed : Bool) (top : ℕ) (s : List ℕ) (z : ℤ) : Type 0 where
  plain : (n : ℕ) → Digits s n → n < top → z ≡ pos n → IntText signed top s z
  plus : (t : List ℕ) (n : ℕ) → s ≡ 43 ∷ t → Digits t n → n < top → z ≡ pos n → IntText signed top s z
  minus : (t : List ℕ) (n : ℕ) → signed ≡ true → s ≡ 45 ∷ t → Digits t n → n ≤ top → z ≡ neg_ℤ (pos n) → IntText signed top s z

-- t is no integer of the type, and draws this number
abbrev pub NoInteger : ℕ → Bool → ℕ → List ℕ → ℕ → Type 0
NoInteger number signed top t n = (n ≡ number) × ((z : ℤ) → IntText signed top t z → ⊥)
