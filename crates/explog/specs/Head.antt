-- The power of two of 30 bits, as L's fast path has it: 2 ^ (h / 2 ^ 30) lies between r / 2 ^ 62 and (r + 16) / 2 ^ 62. Assumes nothing.
use Rattle.std.specs.Prelude.{ℕ, ◌+◌, ◌*◌, ◌^◌, ◌<◌, ◌≤◌}
use Rattle.log_roots.specs.Roots.{low_of, high_of}

-- r / 2 ^ 62 is at most the product of the roots by the bits of h, and (r + 16) / 2 ^ 62 at least
pub record Head (h r : ℕ) : Type 0 where
  pub low : r * (2 ^ 100) ^ 30 ≤ low_of h 0 30 * 2 ^ 62
  pub high : high_of h 0 30 * 2 ^ 62 ≤ (r + 16) * (2 ^ 100) ^ 30
  pub above : 2 ^ 62 ≤ r
  pub below : r + 16 < 2 ^ 63
