-- The best fraction within an odd limit. Document 02, W14: "among all fractions with numerator and denominator from 1 to 65,535 whose odd
-- parts are within the limit, the one closest in ratio". The ratio is A / C, of whole numbers. Assumes nothing.
use Rattle.std.specs.Prelude.{◌≡◌, ◌⊎◌, ℕ, ◌*◌, ◌≤◌, ◌<◌, leb}
use Rattle.base.specs.Said.{pick}
use Rattle.math.specs.OddPart.{odd_part}

-- "from 1 to 65,535 whose odd parts are within the limit"
pub record Allowed (limit n : ℕ) : Type 0 where
  pub some : 1 ≤ n
  pub held : n ≤ 65535
  pub within : odd_part n ≤ limit

-- "the ratio of larger to smaller", of A / C and n / d: its numerator, and its denominator
abbrev pub larger : ℕ → ℕ → ℕ → ℕ → ℕ
larger A C n d = pick (leb (C * n) (A * d)) (A * d) (C * n)

abbrev pub smaller : ℕ → ℕ → ℕ → ℕ → ℕ
smaller A C n d = pick (leb (C * n) (A * d)) (C * n) (A * d)

-- n / d is no further from A / C than p / q, "compared as whole-number fractions"
abbrev pub NoFurther : ℕ → ℕ → ℕ → ℕ → ℕ → ℕ → Type 0
NoFurther A C n d p q = larger A C n d * smaller A C p q ≤ larger A C p q * smaller A C n d

-- n / d is the answer: nothing is closer, and "ties go to the smaller denominator, then the smaller numerator"
pub record Best (A C limit n d : ℕ) : Type 0 where
  pub numer : Allowed limit n
  pub denom : Allowed limit d
  pub nearest : (p q : ℕ) → Allowed limit p → Allowed limit q → NoFurther A C n d p q
  pub ties : (p q : ℕ) → Allowed limit p → Allowed limit q → NoFurther A C p q n d → (d < q) ⊎ ((d ≡ q) × (n ≤ p))
