-- Each refusal of specs/EachSaid.antt is said of its text, by computation. Assumes nothing.
use mathlib.Core.Path.{refl}
use lib.Ieee.{le, lt, eq, neg, div, round, of_int, of_bits}
use Rattle.explog.specs.Log.{b_of, y_of}
use Rattle.explog.specs.Rules.{L, log_of, log_at, octaves_of}
use Rattle.decimals.specs.DecimalScan.{read_decimal}
use Rattle.integers.specs.Integer.{scan, magnitude_of, read_signed}
use Rattle.listing.specs.Reader.{walk_lines}
use Rattle.numerals.specs.Scan.{digit_run_of, spelled, scan_of}
use Rattle.scl_tables.specs.Build.{is_beyond}
use Rattle.text.specs.Cut.{lines}
use Rattle.text.specs.ReadLine.{token_length, meaning_by, meanings}
use Rattle.utf8.specs.Utf8Machine.{lead_of, utf8_step, utf8_from}
use Rattle.white.specs.Trim.{width_by, run}
use Rattle.scl_read.specs.Tokens.{position_of, item_in}
use Rattle.scl_read.specs.Reader.{take_token, finished}
use Rattle.scl_read.specs.EachSaid.{EachSaid}

pub each_said : EachSaid
unfolding lines meaning_by meanings token_length width_by run lead_of utf8_step utf8_from scan magnitude_of read_signed digit_run_of spelled scan_of read_decimal position_of item_in take_token finished walk_lines is_beyond L log_of log_at octaves_of b_of y_of le lt eq div round of_int of_bits neg
each_said =
    record {
      not_utf8 = refl;
      int_value = refl;
      cents_value = refl;
      numer_value = refl;
      denom_value = refl;
      unsupported = refl;
      unusable = refl;
      no_room = refl;
      no_description = refl;
      no_count = refl;
      inconsistent = refl;
      beyond = refl;
      no_place = refl;
    }
