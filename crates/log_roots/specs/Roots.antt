-- Powers of two between products of roots: what the tables of L's fast path say. Assumes nothing.
use Rattle.std.specs.Prelude.{Bool, ℕ, zero, suc, ◌+◌, ◌-◌, ◌*◌, ◌/◌, ◌%◌, ◌≤◌, ◌^◌, eqb, get_or}
use Rattle.base.specs.Said.{pick}
use Rattle.log_roots.specs.Table.{roots}

-- ---- the n factors after place s, by the bits of a number of 30 bits: from below, and from above
abbrev pub bit : ℕ → ℕ → Bool
bit b k = eqb (b / 2 ^ (30 - k) % 2) 1

unfoldable pub low_of : ℕ → ℕ → ℕ → ℕ
low_of b s zero = 1
low_of b s (suc n) = low_of b s n * pick (bit b (suc (s + n))) (get_or roots (suc (s + n)) 0) (2 ^ 100)

unfoldable pub high_of : ℕ → ℕ → ℕ → ℕ
high_of b s zero = 1
high_of b s (suc n) = high_of b s n * pick (bit b (suc (s + n))) (get_or roots (suc (s + n)) 0 + 2) (2 ^ 100)

-- r / 2 ^ 62 is at most the product of the factors by the bits of b, and (r + 1) / 2 ^ 62 at least
pub record Rooted (b s n cap r : ℕ) : Type 0 where
  pub low : r * (2 ^ 100) ^ n ≤ low_of b s n * 2 ^ 62
  pub high : high_of b s n * 2 ^ 62 ≤ (r + 1) * (2 ^ 100) ^ n
  pub above : 2 ^ 62 ≤ r
  pub below : r ≤ cap
