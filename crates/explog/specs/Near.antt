-- What E's fast path computes: a number near P. Assumes nothing.
use Rattle.std.specs.Prelude.{ℕ, ◌+◌, ◌^◌, ◌<◌, ◌≤◌, count_ones}
use Rattle.powers.specs.Exp.{p_of}

-- r is P after 52 steps, or 11 below it at most, or above it, by one for each set bit of b at most
pub record Near (b r : ℕ) : Type 0 where
  pub above : 2 ^ 62 ≤ r
  pub below : r < 2 ^ 63
  pub low : p_of b 52 ≤ r + 11
  pub high : r ≤ p_of b 52 + count_ones b
