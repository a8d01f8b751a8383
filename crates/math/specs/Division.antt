-- Division of a whole number with a sign by one without: document 01, "What is taken", 1, "Denominator 0 gives 10". What
-- it is to divide is `Divides` of base; proofs/Theorems.antt joins the two. Assumes nothing.
use Rattle.std.specs.Prelude.{ℕ, eqb, ℤ}
use Rattle.base.specs.Integers.{floor_div, floor_mod}
use Rattle.base.specs.Numbers.{unusable}
use Rattle.base.specs.Said.{Said, gives, refuses, pick}

-- quotient and remainder together
pub record QuotientAndRemainder : Type 0 where
  pub quotient : ℤ
  pub remainder : ℕ

-- 10 for denominator 0, else the quotient rounded down
unfoldable pub quotient_of : ℤ → ℕ → Said ℤ
quotient_of z s = pick (eqb s 0) (refuses unusable 0) (gives (floor_div z s))

-- 10 for denominator 0, else what is left
unfoldable pub remainder_of : ℤ → ℕ → Said ℕ
remainder_of z s = pick (eqb s 0) (refuses unusable 0) (gives (floor_mod z s))

-- both
unfoldable pub division_of : ℤ → ℕ → Said QuotientAndRemainder
division_of z s = pick (eqb s 0) (refuses unusable 0) (gives (record { quotient = floor_div z s; remainder = floor_mod z s }))
