-- Bytes passed eight at a time, as the code passes them. Assumes nothing.
use Rattle.std.specs.Prelude.{Bool, ◌&&◌, List, ℕ, ◌+◌, ◌≤◌, ◌<◌, leb, length, get_or}

-- from low to high
abbrev pub between : ℕ → ℕ → ℕ → Bool
between low high b = leb low b && leb b high

-- the byte of s at k
abbrev pub byte_between : ℕ → ℕ → List ℕ → ℕ → Bool
byte_between low high s k = between low high (get_or s k 0)

-- the eight bytes of s from i on
abbrev pub eight_between : ℕ → ℕ → List ℕ → ℕ → Bool
eight_between low high s i =
    ((byte_between low high s i && byte_between low high s (i + 1)) && (byte_between low high s (i + 2) && byte_between low high s (i + 3)))
    && ((byte_between low high s (i + 4) && byte_between low high s (i + 5)) && (byte_between low high s (i + 6) && byte_between low high s (i + 7)))

-- r lies at `from` or behind it, and every byte between them is from low to high
pub record Passed (low high : ℕ) (s : List ℕ) (from r : ℕ) : Type 0 where
  pub onward : from ≤ r
  pub each : (k : ℕ) → from ≤ k → k < r → (low ≤ get_or s k 0) × (get_or s k 0 ≤ high)
  pub inside : (k : ℕ) → from ≤ k → k < r → k < length s
