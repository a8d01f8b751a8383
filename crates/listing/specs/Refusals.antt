-- With which numbers and details a reader may refuse. Assumes nothing.
use Rattle.std.specs.Prelude.{◌≡◌, List, [], ◌∷◌, ◌⊎◌, ℕ, ◌≤◌}
use Rattle.base.specs.Numbers.{line_missing}

-- n is one of these
abbrev pub OneOf : List ℕ → ℕ → Type 0
OneOf [] n = ⊥
OneOf (k ∷ ks) n = (n ≡ k) ⊎ OneOf ks n

-- the detail d of a fault with number n, among so many lines: a line or 0; of 2 which of the required lines is missing
abbrev pub DetailOf : ℕ → ℕ → ℕ → ℕ → Type 0
DetailOf lines required n d = (d ≤ lines) ⊎ ((n ≡ line_missing) × (1 ≤ d) × (d ≤ required))
