-- The starred samples hold, all by computation. Assumes nothing.
use mathlib.Core.Path.{refl}
use lib.Ieee.{le, round, size, of_bits, neg}
use Rattle.floats.specs.Units.{negative}
use Rattle.explog.specs.Exp.{t_of, p_of}
use Rattle.explog.specs.Log.{b_of, y_of}
use Rattle.explog.specs.Root.{root, root_from}
use Rattle.explog.specs.Rules.{E, L, floor_of, times_power, power_of, log_of, log_at, octaves_of}
use Rattle.base.specs.Integers.{held}
use Rattle.kbm.specs.Degree.{degree_at, scale_degree_of}
use Rattle.kbm.specs.Table.{are_entries, entries_of}
use Rattle.math.specs.Division.{division_of}
use Rattle.integers.specs.Integer.{scan, magnitude_of, read_signed}
use Rattle.numerals.specs.Scan.{digit_run_of, spelled, scan_of}
use Rattle.decimals.specs.DecimalScan.{read_decimal}
use Rattle.utf8.specs.Utf8Machine.{lead_of, utf8_step, utf8_from}
use Rattle.white.specs.Trim.{width_by, run}
use Rattle.text.specs.Cut.{lines}
use Rattle.text.specs.ReadLine.{token_length, meaning_by, meanings}
use Rattle.listing.specs.Reader.{walk_lines}
use Rattle.scl_read.specs.Tokens.{position_of, item_in}
use Rattle.scl_read.specs.Reader.{take_token}
use Rattle.promises.specs.samples.Samples.{Samples}

pub samples : Samples
unfolding lines meaning_by meanings token_length width_by run lead_of utf8_step utf8_from walk_lines take_token item_in position_of scan magnitude_of read_signed digit_run_of spelled scan_of read_decimal scale_degree_of degree_at are_entries entries_of held division_of E L floor_of times_power power_of log_of log_at octaves_of t_of p_of b_of y_of root root_from le round size of_bits neg negative
samples = record {
  key60 = λ pitch offset. refl;
  key61 = λ pitch offset. refl;
  key63 = λ pitch offset. refl;
  key59 = λ pitch offset. refl;
  key128 = λ pitch offset. refl;
  division = refl;
  split_denom = λ places. refl;
  zero_denom = λ places. refl;
  no_integer = λ places. refl;
  exponent = λ places. refl;
  prints_even = refl;
  prints_up = refl;
  logarithm = refl;
  power = refl;
}
