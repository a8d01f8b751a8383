-- The samples of the searches all hold, by computation. Assumes nothing.
use mathlib.Core.Path.{refl}
use lib.Ieee.{le, lt, eq, neg, add, sub, mul, div, rem, round, size, of_bits, of_fields, odd, climb, span, of_int, to_signed}
use Rattle.base.specs.Integers.{held}
use Rattle.floats.specs.Floats.{trunc, abs}
use Rattle.explog.specs.Exp.{t_of, p_of}
use Rattle.explog.specs.Log.{b_of, y_of}
use Rattle.explog.specs.Root.{root, root_from}
use Rattle.explog.specs.Rules.{E, L, floor_of, times_power, power_of, log_of, log_at, octaves_of}
use Rattle.finding.specs.Find.{pitch_search_from, pitch_search_of}
use Rattle.relative.specs.Pitches.{root_pitch}
use Rattle.relative.specs.Relative.{periods_of, place_of, relative_pitch_of}
use Rattle.scl.specs.Table.{items_of, are_usable}
use Rattle.searching.specs.Search.{chosen_of, nearest_of, search_of}
use Rattle.sorted.specs.Lent.{may_follow, usable_after, are_within}
use Rattle.telbijan_tuning.specs.Samples.{SearchSamples}

pub searches : SearchSamples
unfolding pitch_search_from pitch_search_of root_pitch periods_of place_of relative_pitch_of items_of are_usable may_follow usable_after are_within search_of chosen_of nearest_of held le lt eq neg add sub mul div rem round size of_bits of_fields odd climb span of_int to_signed trunc abs t_of p_of b_of y_of root root_from E L floor_of times_power power_of log_of log_at octaves_of
searches = record { by_ratio = refl; by_ratio_ascending = refl; by_pitch = refl; by_pitch_ascending = refl; key = refl }
