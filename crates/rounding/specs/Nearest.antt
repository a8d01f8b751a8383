-- The steps to the f64 nearest to a fraction, as the code takes them; the nearest value itself is `round` of lib.Ieee.
-- Assumes nothing.
use Rattle.std.specs.Prelude.{◌≡◌, ℕ, ◌+◌, ◌*◌, ◌/◌, ◌%◌, ◌^◌, ◌<◌, ◌≤◌, ◌==◌}
use Rattle.base.specs.Said.{pick}
use Rattle.rounding.specs.declared.Quotient.{Quotient}

-- n * 2 ^ steps is q times e and a rest below e; q has 54 binary digits
pub record Divided (n e : ℕ) (r : Quotient) : Type 0 where
  pub exact : n * 2 ^ r.steps ≡ r.q * e + r.rest
  pub small : r.rest < e
  pub low : 2 ^ 53 ≤ r.q
  pub high : r.q < 2 ^ 54
  pub few : r.steps < 120

-- half of q and the rest after it, to the nearest whole number, a tie to the even one
abbrev pub rounded_half : ℕ → ℕ → ℕ
rounded_half q rest = pick (q % 2 == 0) (q / 2) (pick (rest == 0) (q / 2 + q / 2 % 2) (q / 2 + 1))
