-- Each refusal of specs/EachSaid.antt is said of its text, by computation. Assumes nothing.
use mathlib.Core.Path.{refl}
use lib.Ieee.{round, of_bits, le}
use Rattle.numerals.specs.Scan.{digit_run_of, spelled, scan_of}
use Rattle.decimals.specs.DecimalScan.{read_decimal}
use Rattle.integers.specs.Integer.{scan, magnitude_of, read_signed}
use Rattle.listing.specs.Reader.{walk_lines}
use Rattle.text.specs.Cut.{lines}
use Rattle.text.specs.ReadLine.{token_length, meaning_by, meanings}
use Rattle.white.specs.Trim.{width_by, run}
use Rattle.utf8.specs.Utf8Machine.{lead_of, utf8_step, utf8_from}
use Rattle.kbm_read.specs.Reader.{entry_in, take_token, finished}
use Rattle.kbm_read.specs.EachSaid.{EachSaid}

pub each_said : EachSaid
unfolding lines meaning_by meanings token_length width_by run lead_of utf8_step utf8_from scan magnitude_of read_signed digit_run_of spelled scan_of read_decimal entry_in take_token finished walk_lines round of_bits le
each_said =
    record {
      not_utf8 = refl;
      int_value = refl;
      float_value = refl;
      keyboard_mapping = refl;
      unsupported = refl;
      unusable = refl;
      overflow = refl;
      no_room = refl;
      backwards = refl;
      no_size = refl;
      no_first = refl;
      no_last = refl;
      no_middle = refl;
      no_reference = refl;
      no_pitch = refl;
      no_octave = refl;
      none_added = refl;
      inconsistent = refl;
    }
