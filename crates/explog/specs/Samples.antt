-- Document 01, "Sample lines": L(2) = 1, E(1) = 2, and some values more, as the definitions compute them. Assumes nothing.
use Rattle.std.specs.Prelude.{◌≡◌, true, false, pos, negsuc, refl}
use Rattle.std.specs.Float.{fin, nan}
use Rattle.std.specs.Float.Ieee.{le, round, size, of_bits, neg, lt, eq}
use Rattle.base.specs.Said.{gives, refuses}
use Rattle.floats.specs.Floats.{two_to, zero_f, one_f}
use Rattle.explog.specs.Root.{root, root_from}
use Rattle.explog.specs.Exp.{t_of, p_of}
use Rattle.explog.specs.Log.{b_of, y_of}
use Rattle.explog.specs.Rules.{E, L, floor_of, times_power, power_of, log_of, log_at, octaves_of}

-- L(2) = 1
pub log_of_two : L (two_to (pos 1)) ≡ gives one_f
unfolding L log_of log_at octaves_of b_of y_of le round size of_bits
log_of_two = refl

-- E(1) = 2
pub power_of_one : E one_f ≡ gives (two_to (pos 1))
unfolding E floor_of power_of times_power t_of root root_from p_of le round of_bits neg
power_of_one = refl

-- L(1) = +0.0, L(10), E(-0.5)
pub log_of_one : L one_f ≡ gives zero_f
unfolding L log_of log_at octaves_of b_of y_of le round size of_bits
log_of_one = refl

pub log_of_ten : L (fin false 5 (pos 1)) ≡ gives (fin false 7480317065143153 (negsuc 50))
unfolding L log_of log_at octaves_of b_of y_of le round size of_bits
log_of_ten = refl

pub power_of_minus_half : E (fin true 1 (negsuc 0)) ≡ gives (fin false 6369051672525773 (negsuc 52))
unfolding E floor_of power_of times_power t_of root root_from p_of le round of_bits neg
power_of_minus_half = refl

-- outside the domain 18, detail 0: E of a NaN, L of 0.0
pub power_of_nan : E nan ≡ refuses 18 0
unfolding E le lt eq of_bits neg
power_of_nan = refl

pub log_of_zero : L zero_f ≡ refuses 18 0
unfolding L le lt eq of_bits
log_of_zero = refl

-- the last entry of the table
pub last_entry : t_of 52 ≡ 4611686018427388612
unfolding t_of root root_from
last_entry = refl
