-- The samples of generated scales all hold, by computation. Assumes nothing.
use mathlib.Core.Path.{refl}
use lib.Ieee.{le, lt, eq, neg, add, sub, mul, div, rem, round, size, of_bits, of_fields, odd, climb, span, of_int, to_unsigned}
use Rattle.floats.specs.Floats.{trunc, abs, floor}
use Rattle.explog.specs.Exp.{t_of, p_of}
use Rattle.explog.specs.Log.{b_of, y_of}
use Rattle.explog.specs.Root.{root, root_from}
use Rattle.explog.specs.Rules.{E, L, floor_of, times_power, power_of, log_of, log_at, octaves_of}
use Rattle.generate.specs.Generated.{items_from}
use Rattle.harmonics.specs.Segment.{harmonic_of}
use Rattle.rank2.specs.Notes.{ratios_from}
use Rattle.rank2.specs.Rank2.{ascending_ratios, pushed_as}
use Rattle.promises.specs.samples.Generators.{GeneratorSamples}

pub generators : GeneratorSamples
unfolding items_from harmonic_of ratios_from ascending_ratios pushed_as le lt eq neg add sub mul div rem round size of_bits of_fields odd climb span of_int to_unsigned trunc abs floor t_of p_of b_of y_of root root_from E L floor_of times_power power_of log_of log_at octaves_of
generators = record {
  rank_two = refl;
  divided = refl;
  nearer_up = refl;
  nearer_down = refl;
  whole_up = refl;
  whole_down = refl;
}
