-- The samples of lists and searches all hold, by computation. Assumes nothing.
use mathlib.Core.Path.{refl}
use lib.Ieee.{le, lt, eq, neg, add, sub, mul, div, rem, round, size, of_bits, of_fields, odd, climb, span, of_int, to_signed}
use Rattle.base.specs.Integers.{held}
use Rattle.floats.specs.Floats.{trunc, abs}
use Rattle.explog.specs.Exp.{t_of, p_of}
use Rattle.explog.specs.Log.{b_of, y_of}
use Rattle.explog.specs.Root.{root, root_from}
use Rattle.explog.specs.Rules.{E, L, floor_of, times_power, power_of, log_of, log_at, octaves_of}
use Rattle.scl_tables.specs.Build.{sorted_of}
use Rattle.searching.specs.Search.{chosen_of, nearest_of, search_of}
use Rattle.promises.specs.samples.Degrees.{DegreeSamples}

pub degrees : DegreeSamples
unfolding sorted_of search_of chosen_of nearest_of held le lt eq neg add sub mul div rem round size of_bits of_fields odd climb span of_int to_signed trunc abs t_of p_of b_of y_of root root_from E L floor_of times_power power_of log_of log_at octaves_of
degrees = record {
  downward_sorted = refl;
  downward_finds = refl;
  downward_declared = refl;
  downward_ascending = refl;
  thirds_sorted = refl;
  thirds_finds = refl;
  thirds_declared = refl;
  thirds_ascending = refl;
  below_tolerance = refl;
  above_tolerance = refl;
}
