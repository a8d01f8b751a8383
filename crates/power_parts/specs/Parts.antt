-- What a part of E's steps multiplies by: the n steps after step s, for the fraction b. Assumes nothing.
use Rattle.std.specs.Prelude.{◌≡◌, ℕ, zero, suc, ◌+◌, ◌-◌, ◌*◌, ◌≤◌, ◌<◌, ◌^◌}
use Rattle.powers.specs.Inner.{factor_of}

-- the product of what the steps multiply by
unfoldable pub product_of : ℕ → ℕ → ℕ → ℕ
product_of b s zero = 1
product_of b s (suc n) = product_of b s n * factor_of b (suc (s + n))

-- the sum of what they multiply by beyond 2 ^ 62
unfoldable pub rise_of : ℕ → ℕ → ℕ → ℕ
rise_of b s zero = 0
rise_of b s (suc n) = rise_of b s n + (factor_of b (suc (s + n)) - 2 ^ 62)

-- r is that product over (2 ^ 62) ^ (n - 1), rounded down; it is near 2 ^ 62
pub record Part (b s n r : ℕ) : Type 0 where
  pub low : r * (2 ^ 62) ^ n ≤ product_of b s n * 2 ^ 62
  pub high : product_of b s n * 2 ^ 62 < (r + 1) * (2 ^ 62) ^ n
  pub above : 2 ^ 62 ≤ r
  pub below : r * 2 ^ s ≤ 2 ^ 62 * 2 ^ s + 2 ^ 62

-- r is that sum
pub record Rise (b s n r : ℕ) : Type 0 where
  pub is : r ≡ rise_of b s n
  pub below : r ≤ 2 ^ 30
