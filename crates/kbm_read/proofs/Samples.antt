-- Worked mapping files, computed: document 01's example of `kbmcopy`, and faults of it. Assumes nothing.
use Rattle.std.specs.Prelude.{Some, None}
use mathlib.Core.Path.{◌≡◌, refl}
use mathlib.Core.List.{List, [], ◌∷◌, ◌++◌}
use Prim.Native.Nat.{ℕ}
use lib.Ieee.{binary64, of_bits, round, le}
use lib.IntN.{pos}
use Rattle.base.specs.Said.{gives, refuses}
use Rattle.kbm.specs.declared.Kbm.{Kbm}
use Rattle.key.specs.Keys.{key}
use Rattle.numerals.specs.Scan.{spelled, scan_of}
use Rattle.numerals.specs.Scan as numerals
use Rattle.decimals.specs.DecimalScan.{read_decimal}
use Rattle.integers.specs.Integer.{scan, magnitude_of, read_signed}
use Rattle.listing.specs.Reader.{walk_lines, given_after}
use Rattle.text.specs.Cut.{lines}
use Rattle.text.specs.ReadLine.{token_length, meaning_by, meanings}
use Rattle.white.specs.Trim.{width_by, run}
use Rattle.utf8.specs.Utf8Machine.{lead_of, utf8_step}
use Rattle.utf8.specs.Utf8Machine as utf8
use Rattle.kbm_read.specs.Language.{blanks}
use Rattle.kbm_read.specs.Reader.{entry_in, take_token, finished, read_of, entries_in}

-- `3`, `0`, `127`, `62`, `60`, `261.6256`, `5`, each with LF
abbrev seven : List ℕ
seven = 51 ∷ 10 ∷ 48 ∷ 10 ∷ 49 ∷ 50 ∷ 55 ∷ 10 ∷ 54 ∷ 50 ∷ 10 ∷ 54 ∷ 48 ∷ 10 ∷ 50 ∷ 54 ∷ 49 ∷ 46 ∷ 54 ∷ 50 ∷ 53 ∷ 54 ∷ 10 ∷ 53 ∷ 10 ∷ []

-- what they say
abbrev example : Kbm
example =
    record {
      root = record { reference = key (pos 60); pitch = record { 0 = of_bits binary64 0x4070_5A02_7525_460B }; offset = pos 2 };
      start = key (pos 0);
      end = key (pos 128);
      octave = pos 5;
      count = 3;
    }

-- `60` and LF; the digits `214748364`
abbrev sixty : List ℕ
sixty = 54 ∷ 48 ∷ 10 ∷ []

abbrev top : List ℕ
top = 50 ∷ 49 ∷ 52 ∷ 55 ∷ 52 ∷ 56 ∷ 51 ∷ 54 ∷ 52 ∷ []

-- no entries, key 60 alone, at 8 Hz
abbrev sixty_alone : Kbm
sixty_alone =
    record {
      root = record { reference = key (pos 60); pitch = record { 0 = of_bits binary64 0x4020_0000_0000_0000 }; offset = pos 0 };
      start = key (pos 60);
      end = key (pos 61);
      octave = pos 0;
      count = 0;
    }

pub record Samples : Type 0 where
  -- with `0`, `X` after them it is read, and one entry is added as unmapped
  pub mapping : read_of 8 (seven ++ 48 ∷ 10 ∷ 88 ∷ 10 ∷ []) ≡ gives example
  pub entries : entries_in 3 (seven ++ 48 ∷ 10 ∷ 88 ∷ 10 ∷ []) ≡ Some (pos 0) ∷ None ∷ None ∷ []
  -- with room for two the added entry has no place
  pub no_place : read_of 2 (seven ++ 48 ∷ 10 ∷ 88 ∷ 10 ∷ []) ≡ refuses 12 0
  -- `0`, `y`: the ninth line is no entry; and a comment before it counts
  pub broken : read_of 8 (seven ++ 48 ∷ 10 ∷ 121 ∷ 10 ∷ []) ≡ refuses 8 9
  pub counted : read_of 8 (33 ∷ 10 ∷ seven ++ 48 ∷ 10 ∷ 121 ∷ 10 ∷ []) ≡ refuses 8 10
  -- four entries for three are 14, but a bad line after them comes first
  pub too_many : read_of 8 (seven ++ 48 ∷ 10 ∷ 48 ∷ 10 ∷ 48 ∷ 10 ∷ 48 ∷ 10 ∷ []) ≡ refuses 14 0
  pub bad_first : read_of 8 (seven ++ 48 ∷ 10 ∷ 48 ∷ 10 ∷ 48 ∷ 10 ∷ 48 ∷ 10 ∷ 121 ∷ []) ≡ refuses 8 12
  -- a text without lines lacks the first required line
  pub nothing : read_of 8 [] ≡ refuses 2 1
  -- the arranger's keys, `60` and `59`: 25 at the last key's line, though the next line is bad, the last is no UTF-8, and there is no room;
  -- `!`, `1`, a blank line, `5`, `!`, `4`: at line 6
  pub swapped : read_of 0 (49 ∷ 10 ∷ sixty ++ 53 ∷ 57 ∷ 10 ∷ 121 ∷ 10 ∷ 255 ∷ []) ≡ refuses 25 3
  pub later : read_of 8 (33 ∷ 10 ∷ 49 ∷ 10 ∷ 10 ∷ 53 ∷ 10 ∷ 33 ∷ 10 ∷ 52 ∷ 10 ∷ []) ≡ refuses 25 6
  -- `60` and `60` are one key, and stay
  pub one_key : read_of 0 (48 ∷ 10 ∷ sixty ++ sixty ++ sixty ++ sixty ++ 56 ∷ 10 ∷ 48 ∷ []) ≡ gives sixty_alone
  -- from the largest key to itself is 11, to the one before it 25
  pub largest : read_of 0 (48 ∷ 10 ∷ top ++ 55 ∷ 10 ∷ top ++ 55 ∷ []) ≡ refuses 11 3
  pub under_largest : read_of 0 (48 ∷ 10 ∷ top ++ 55 ∷ 10 ∷ top ++ 54 ∷ []) ≡ refuses 25 3

pub samples : Samples
unfolding lines meaning_by meanings token_length width_by run lead_of utf8_step utf8.utf8_from scan magnitude_of read_signed numerals.digit_run_of spelled scan_of read_decimal entry_in take_token finished walk_lines given_after blanks round of_bits le
samples =
    record {
      mapping = refl;
      entries = refl;
      no_place = refl;
      broken = refl;
      counted = refl;
      too_many = refl;
      bad_first = refl;
      nothing = refl;
      swapped = refl;
      later = refl;
      one_key = refl;
      largest = refl;
      under_largest = refl;
    }
