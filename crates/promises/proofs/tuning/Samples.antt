-- The samples, as the definitions compute them. Assumes nothing.
use mathlib.Core.Path.{◌≡◌, refl}
use mathlib.Core.Bool.{false}
use lib.IntN.{pos, negsuc}
use lib.Ieee.{fin, le, lt, eq, neg, add, sub, mul, div, rem, round, size, of_bits, of_fields, odd, climb, span, of_int, to_signed}
use Rattle.base.specs.Integers.{held}
use Rattle.base.specs.Said.{gives, and_then}
use Rattle.floats.specs.Floats.{trunc, abs}
use Rattle.explog.specs.Exp.{t_of, p_of}
use Rattle.explog.specs.Log.{b_of, y_of}
use Rattle.explog.specs.Root.{root, root_from}
use Rattle.explog.specs.Rules.{E, L, floor_of, times_power, power_of, log_of, log_at, octaves_of}
use Rattle.pitch.specs.Ratios.{two_f}
use Rattle.scl_tables.specs.Build.{sorted_of}
use Rattle.relative.specs.Relative.{periods_of, place_of, relative_pitch_of}
use Rattle.searching.specs.Search.{chosen_of, nearest_of, search_of}
use Rattle.searching.specs.Degrees.{declared_of, ascending_of}
use Rattle.promises.specs.tuning.Samples.{only, only_list, three_f, three_answer, seventeenth, eighteenth, parted_answer, repeated_items, repeated_list, repeated_answer, three, below_pitch}

-- the lists are those of the scales
pub two_sorted : sorted_of (only 2) ≡ gives (only_list two_f)
unfolding sorted_of le lt eq neg add sub mul div rem round size of_bits of_fields odd climb span of_int to_signed trunc abs t_of p_of b_of y_of root root_from E L floor_of times_power power_of log_of log_at octaves_of
two_sorted = refl

pub three_sorted : sorted_of (only 3) ≡ gives (only_list three_f)
unfolding sorted_of le lt eq neg add sub mul div rem round size of_bits of_fields odd climb span of_int to_signed trunc abs t_of p_of b_of y_of root root_from E L floor_of times_power power_of log_of log_at octaves_of
three_sorted = refl

-- "Only item 2/1: ratio 3.0 gives degree 2"
pub three_in_two : and_then (search_of (only 2) (only_list two_f) three_f) (declared_of 1) ≡ gives three_answer
unfolding search_of chosen_of nearest_of held le lt eq neg add sub mul div rem round size of_bits of_fields odd climb span of_int to_signed trunc abs t_of p_of b_of y_of root root_from E L floor_of times_power power_of log_of log_at octaves_of
three_in_two = refl

-- the pitches of two degrees
pub pitch_of_17 : relative_pitch_of (only 3) (pos 17) ≡ gives seventeenth
unfolding relative_pitch_of periods_of place_of le lt eq neg add sub mul div rem round size of_bits of_fields odd climb span of_int to_signed trunc abs t_of p_of b_of y_of root root_from E L floor_of times_power power_of log_of log_at octaves_of
pitch_of_17 = refl

pub pitch_of_18 : relative_pitch_of (only 3) (pos 18) ≡ gives eighteenth
unfolding relative_pitch_of periods_of place_of le lt eq neg add sub mul div rem round size of_bits of_fields odd climb span of_int to_signed trunc abs t_of p_of b_of y_of root root_from E L floor_of times_power power_of log_of log_at octaves_of
pitch_of_18 = refl

-- A FOUND DEGREE AND ITS PITCH MAY PART: the pitch of degree 17 is answered by degree 18
pub found_parts : and_then (search_of (only 3) (only_list three_f) seventeenth) (declared_of 1) ≡ gives parted_answer
unfolding search_of chosen_of nearest_of held le lt eq neg add sub mul div rem round size of_bits of_fields odd climb span of_int to_signed trunc abs t_of p_of b_of y_of root root_from E L floor_of times_power power_of log_of log_at octaves_of
found_parts = refl

-- of equal entries the first is found
pub repeated_sorted : sorted_of repeated_items ≡ gives repeated_list
unfolding sorted_of le lt eq neg add sub mul div rem round size of_bits of_fields odd climb span of_int to_signed trunc abs t_of p_of b_of y_of root root_from E L floor_of times_power power_of log_of log_at octaves_of
repeated_sorted = refl

pub repeated_found : and_then (search_of repeated_items repeated_list (fin false 1 (pos 0))) (ascending_of 6) ≡ gives repeated_answer
unfolding search_of chosen_of nearest_of held le lt eq neg add sub mul div rem round size of_bits of_fields odd climb span of_int to_signed trunc abs t_of p_of b_of y_of root root_from E L floor_of times_power power_of log_of log_at octaves_of
repeated_found = refl

-- a degree below place 0 goes down a whole period
pub floors : relative_pitch_of three (negsuc 0) ≡ gives below_pitch
unfolding relative_pitch_of periods_of place_of le lt eq neg add sub mul div rem round size of_bits of_fields odd climb span of_int to_signed trunc abs t_of p_of b_of y_of root root_from E L floor_of times_power power_of log_of log_at octaves_of
floors = refl
