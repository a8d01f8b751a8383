-- What the inner functions ensure, as the code computes it; E and L themselves are in explog/specs/Rules.antt. Assumes nothing.
use Rattle.std.specs.Prelude.{◌≡◌, ℕ, zero, suc, ◌+◌, ◌-◌, ◌*◌, ◌/◌, ◌%◌, ◌≤◌, ◌<◌, ◌^◌, leb, eqb}
use Rattle.base.specs.Said.{pick}
use Rattle.powers.specs.Exp.{t_of, p_of}
use Rattle.powers.specs.Log.{b_of}

-- what stands at place k of the table: T_k; at place 0 the 2 ^ 62 of a step whose bit is clear
abbrev pub factor_at : ℕ → ℕ
factor_at zero = 2 ^ 62
factor_at (suc k) = t_of (suc k)

-- r stands at place k; T_k is above 2 ^ 62, and below 2 ^ 63
pub record IsFactor (k r : ℕ) : Type 0 where
  pub is : r ≡ factor_at k
  pub above : 2 ^ 62 < r + (1 - k)
  pub below : r < 2 ^ 63

-- what step k multiplies by: T_k where b's bit of weight 2 ^ (52 - k) is set, else 2 ^ 62
abbrev pub factor_of : ℕ → ℕ → ℕ
factor_of b k = pick (eqb (b / 2 ^ (52 - k) % 2) 1) (t_of k) (2 ^ 62)

-- r is what step k multiplies by
pub record Factor (b k r : ℕ) : Type 0 where
  pub is : r ≡ factor_of b k
  pub below : r < 2 ^ 63

-- r is P after k steps; what bounds it is that P * T_k never passes 2 ^ 125
pub record Power (b k r : ℕ) : Type 0 where
  pub is : r ≡ p_of b k
  pub above : 2 ^ 62 ≤ r
  pub bound : r * t_of k ≤ 2 ^ 125

-- r is B for y
pub record Bits (y r : ℕ) : Type 0 where
  pub is : r ≡ b_of y 52
  pub below : r < 2 ^ 52

-- L's next bit
abbrev pub top_bit : ℕ → ℕ
top_bit s = pick (leb (2 ^ 63) s) 1 0
