-- The rules on natural numbers alone, as the program computes them: a size is counted in units of 2 ^ -1074, and f and e are moved up to be above 0. Assumes nothing.
use Rattle.std.proofs.Common.{ℕ, ◌+◌, ◌-◌, ◌*◌, ◌/◌, ◌%◌, ◌^◌, true, false, leb}
use lib.Ieee.{Float, binary64, round}
use Rattle.base.specs.Said.{pick}
use Rattle.floats.specs.Units.{units_of, negative}
use Rattle.explog.specs.Exp.{p_of}
use Rattle.explog.specs.Log.{b_of}

-- floor (x * 2 ^ 52) + 1024 * 2 ^ 52
unfoldable pub plain_floor : Float → ℕ
plain_floor x = pick (negative x) (2 ^ 1084 - units_of x) (2 ^ 1084 + units_of x) / 2 ^ 1022

unfoldable pub plain_power : ℕ → Float
plain_power f = round binary64 false (p_of (f % 2 ^ 52) 52 * 2 ^ (f / 2 ^ 52)) (2 ^ 1086)

-- the f64 nearest to (a - b) / c
unfoldable pub nearest_diff : ℕ → ℕ → ℕ → Float
nearest_diff a b c = pick (leb b a) (round binary64 false (a - b) c) (round binary64 true (b - a) c)

-- e is k - 1074
unfoldable pub plain_log : ℕ → ℕ → Float
plain_log m k = nearest_diff (k * 2 ^ 52 + b_of (m * 2 ^ 10) 52) (1022 * 2 ^ 52) (2 ^ 52)
