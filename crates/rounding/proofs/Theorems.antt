-- "a public function's contract leaves one possible result" (document 01): a line for each public call. Assumes nothing.
use Rattle.std.proofs.Common.{ℕ, ◌*◌, ◌^◌, false}
use lib.Ieee.{binary64, round}
use Rattle.base.specs.Said.{One}
use Rattle.base.proofs.Said.{one_result}
use Rattle.rounding.specs.Nearest.{rounded_half}

pub pow10_one : (k : ℕ) → One (λ r. r) (10 ^ k)
pow10_one k = one_result (10 ^ k)

pub rounded_half_one : (q rest : ℕ) → One (λ r. r) (rounded_half q rest)
rounded_half_one q rest = one_result (rounded_half q rest)

pub nearest_scaled_one : (n e up : ℕ) → One (λ r. r) (round binary64 false (n * 2 ^ up) e)
nearest_scaled_one n e up = one_result (round binary64 false (n * 2 ^ up) e)

pub nearest_power_one : (p n : ℕ) → One (λ r. r) (round binary64 false (p * 2 ^ n) (2 ^ 1086))
nearest_power_one p n = one_result (round binary64 false (p * 2 ^ n) (2 ^ 1086))

pub nearest_ratio_one : (n : ℕ) → One (λ r. r) (round binary64 false n (2 ^ 52))
nearest_ratio_one n = one_result (round binary64 false n (2 ^ 52))
