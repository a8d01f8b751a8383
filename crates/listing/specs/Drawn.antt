-- Document 01, "Lines": "Languages for demand 3 [..]: the texts that draw none of 1 to 11, 13, 14 and 18". Which numbers these are,
-- and how much room is ample, so that a text draws no 12. Assumes nothing.
use Rattle.std.specs.Prelude.{◌≡◌, List, ◌⊎◌, ℕ, ◌+◌, ◌≤◌, length}
use Rattle.base.specs.Numbers.{too_large, inconsistent_count, beyond_reach}

-- one of "1 to 11, 13, 14 and 18"
abbrev pub Drawn : ℕ → Type 0
Drawn n = ((1 ≤ n) × (n ≤ 11)) ⊎ ((n ≡ too_large) ⊎ ((n ≡ inconsistent_count) ⊎ (n ≡ beyond_reach)))

-- ample room for a text: a place for each of its bytes, and 65,536 more
abbrev pub Ample : ℕ → List ℕ → Type 0
Ample room s = length s + 65536 ≤ room
