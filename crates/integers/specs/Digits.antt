-- Document 01, "Lines": rows of decimal digits, and the number that they write. Assumes nothing.
use Rattle.std.specs.Prelude.{Bool, false, List, [], ◌∷◌, ℕ, ◌+◌, ◌-◌, ◌*◌, ◌^◌, ◌≤◌, leb, ltb, length}
use Rattle.base.specs.Said.{pick}

-- the number that a row of decimal digits writes, each by its place
abbrev pub decimal : List ℕ → ℕ
decimal [] = 0
decimal (b ∷ s) = (b - 48) * 10 ^ length s + decimal s

-- each byte is one of `0` to `9`
abbrev pub AllDigits : List ℕ → Type 0
AllDigits [] = Unit {0}
AllDigits (b ∷ s) = ((48 ≤ b) × (b ≤ 57)) × AllDigits s

-- b is one of `0` to `9`, as a test
abbrev pub is_digit : ℕ → Bool
is_digit b = pick (ltb b 48) false (leb b 57)
