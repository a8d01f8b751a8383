-- The builds of specs/Samples.antt, computed. Assumes nothing.
use mathlib.Core.Path.{refl}
use lib.Ieee.{round, of_bits, le}
use Rattle.kbm.specs.Table.{are_entries}
use Rattle.kbm_build.specs.Builder.{built}
use Rattle.kbm_build.specs.Samples.{Samples}

pub samples : Samples
unfolding built are_entries round of_bits le
samples =
    record {
      none = refl;
      swapped = refl;
      far = refl;
      one_key = refl;
      root_first = refl;
      table_first = refl;
      state_first = refl;
      octave_first = refl;
    }
