-- The samples of pitches in both countings all hold, by computation. Assumes nothing.
use mathlib.Core.Path.{refl}
use lib.Ieee.{le, lt, eq, neg, add, sub, mul, div, rem, round, size, of_bits, of_fields, odd, climb, span, of_int, to_signed}
use Rattle.base.specs.Integers.{held}
use Rattle.floats.specs.Floats.{trunc, abs}
use Rattle.explog.specs.Exp.{t_of, p_of}
use Rattle.explog.specs.Log.{b_of, y_of}
use Rattle.explog.specs.Root.{root, root_from}
use Rattle.explog.specs.Rules.{E, L, floor_of, times_power, power_of, log_of, log_at, octaves_of}
use Rattle.kbm.specs.Degree.{degree_at}
use Rattle.kbm.specs.Table.{are_entries, entries_of}
use Rattle.relative.specs.Pitches.{root_pitch, pitch_from, pitch_of}
use Rattle.relative.specs.Relative.{periods_of, place_of, relative_pitch_of}
use Rattle.scl.specs.Table.{items_of, are_usable}
use Rattle.tuning.specs.Run.{sounded_to, numbers_to}
use Rattle.telbijan_tuning.specs.MiddleSamples.{MiddleSamples}

pub middles : MiddleSamples
unfolding sounded_to numbers_to root_pitch pitch_from pitch_of periods_of place_of relative_pitch_of items_of are_usable degree_at are_entries entries_of held le lt eq neg add sub mul div rem round size of_bits of_fields odd climb span of_int to_signed trunc abs t_of p_of b_of y_of root root_from E L floor_of times_power power_of log_of log_at octaves_of
middles =
    record {
      reference_old = refl;
      reference_new = refl;
      middle_old = refl;
      middle_new = refl;
      under_new = refl;
      none = refl;
      gap_first = refl;
      range_first = refl;
      table_first = refl;
      root_first = refl;
      items_first = refl;
      far = refl;
      beyond = refl;
      silent_run = refl;
      harp_run = refl;
      last_run = refl;
    }
