-- Document 01, "Sample lines" and "Readings to rule out", of `nearest_fraction`, as the definitions compute them. Assumes nothing.
use Rattle.std.specs.Prelude.{◌≡◌, refl, true, false, ℕ, pos, negsuc, Float}
use Rattle.std.specs.Float.{fin, binary64}
use Rattle.std.specs.Float.Ieee.{round, size, div, neg, le, lt, eq, of_bits, of_int, to_signed}
use Rattle.base.specs.Said.{gives}
use Rattle.floats.specs.Floats.{one_f, floor, count}
use Rattle.floats.specs.Ranges.{in_search}
use Rattle.explog.specs.Root.{root, root_from}
use Rattle.explog.specs.Exp.{t_of, p_of}
use Rattle.explog.specs.Log.{b_of, y_of}
use Rattle.explog.specs.Rules.{E, L, floor_of, times_power, power_of, log_of, log_at, octaves_of}
use Rattle.math.specs.OddPart.{halved_while_even}
use Rattle.pitch.specs.Given.{computed}
use Rattle.fraction.specs.NearestFraction.{fraction, walked, turn_of, turn_at, passed, improved, both_over, both_within, float_of, best_for, nearest_fraction}
use Rattle.pitch.specs.Ratios.{from_octaves, upward}
use Rattle.fraction.specs.declared.NearestFraction.{NearestFraction}

-- numer / denom as it is answered, with no octave taken off
abbrev pub fraction_answer : ℕ → ℕ → Float → NearestFraction
fraction_answer numer denom deviation = record { numer = numer; denom = denom; deviation = record { 0 = deviation }; num_octaves = pos 0 }

-- how far x is from a fraction, upwards
abbrev pub far_from : ℕ → ℕ → Float → Float
far_from numer denom x = upward (div binary64 x (float_of (fraction numer denom)))

-- 1.575, by its digits
abbrev pub x1575 : Float
x1575 = fin false 7093169413108531 (negsuc 51)

pub is_1575 : x1575 ≡ round binary64 false 1575 1000
unfolding round size
is_1575 = refl

-- "Ratio 1.25, odd limit 3: 4/3"
pub four_thirds : nearest_fraction (fin false 5 (negsuc 1)) 3 ≡ gives (fraction_answer 4 3 (div binary64 (fin false 5 (negsuc 1)) (float_of (fraction 4 3))))
unfolding nearest_fraction le lt eq of_bits L log_of log_at octaves_of b_of y_of round size floor to_signed of_int E floor_of power_of times_power t_of root root_from p_of neg div best_for walked turn_of turn_at passed improved both_over both_within halved_while_even upward
four_thirds = refl

-- ---- 1.575 with odd limit 9
-- the walk
walk : best_for x1575 (pos 0) 9 ≡ fraction_answer 8 5 (fin false 8866461766385663 (negsuc 52))
unfolding le lt eq of_bits round size of_int neg div best_for walked turn_of turn_at passed improved both_over both_within halved_while_even upward
walk = refl

-- the steps before it: no octave is taken off
octaves : L x1575 ≡ gives (fin false 2951442251136071 (negsuc 51))
unfolding L le lt eq of_bits log_of log_at octaves_of b_of y_of round size
octaves = refl

whole : count (floor (fin false 2951442251136071 (negsuc 51))) ≡ gives (pos 0)
unfolding floor le lt eq of_bits round size to_signed
whole = refl

power : from_octaves (of_int binary64 (pos 0)) ≡ gives one_f
unfolding of_int E floor_of power_of times_power t_of root root_from p_of le lt eq round size of_bits neg
power = refl

target : computed (div binary64 x1575 one_f) ≡ gives x1575
unfolding div round size le lt eq of_bits
target = refl

searched : in_search x1575 ≡ true
unfolding le lt eq of_bits
searched = refl

-- "Taking `nearest_fraction` for the best fraction in the limit": 1.575 with odd limit 9 answers 8/5; 14/9 is within the
-- limit and nearer, but the walk turns away at 11/7, which is not
pub not_best : nearest_fraction x1575 9 ≡ gives (fraction_answer 8 5 (fin false 8866461766385663 (negsuc 52)))
unfolding nearest_fraction
not_best = rw (searched, octaves, whole, power, target, walk)

pub nearer : (both_within (fraction 14 9) 9 ≡ true) × (lt (far_from 14 9 x1575) (far_from 8 5 x1575) ≡ true)
unfolding both_within halved_while_even lt upward div round size of_int neg of_bits
nearer = (refl, refl)
