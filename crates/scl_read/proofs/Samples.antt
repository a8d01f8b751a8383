-- Worked scale files, computed: a good one, and faults of it. Assumes nothing.
use Rattle.std.specs.Prelude.{Some}
use mathlib.Core.Path.{◌≡◌, refl}
use mathlib.Core.Bool.{false}
use mathlib.Core.List.{List, [], ◌∷◌, ◌++◌}
use Prim.Native.Nat.{ℕ}
use lib.Ieee.{binary64, round, neg, div, le, of_int, of_bits}
use Rattle.base.specs.Said.{gives, refuses}
use Rattle.floats.specs.Units.{negative}
use Rattle.explog.specs.Exp.{p_of}
use Rattle.explog.specs.Log.{b_of, y_of}
use Rattle.explog.specs.Rules.{E, L, floor_of, times_power, power_of, log_of, log_at, octaves_of}
use Rattle.decimals.specs.DecimalScan.{read_decimal}
use Rattle.integers.specs.Integer.{scan, magnitude_of, read_signed}
use Rattle.listing.specs.Reader.{walk_lines, given_after}
use Rattle.numerals.specs.Scan.{digit_run_of, spelled, scan_of}
use Rattle.scl.specs.declared.Item.TheVariants.{Cents, Fraction}
use Rattle.scl_read.specs.Tokens.{position_of, item_in}
use Rattle.scl_tables.specs.Build.{is_beyond}
use Rattle.text.specs.Cut.{lines}
use Rattle.text.specs.Placed.{starts_from, placed_by}
use Rattle.text.specs.ReadLine.{token_length, meaning_by, meanings, line_by}
use Rattle.utf8.specs.Utf8Machine.{lead_of, utf8_step, utf8_from}
use Rattle.white.specs.Trim.{width_by, run}
use Rattle.scl_read.specs.Reader.{take_token, finished, given_in, description_in, read_of}
use Rattle.scl_read.specs.declared.SclRead.{SclRead}

-- `!`, a blank line, ` a b ` and `2`, each with LF: the count of items stands on line 4
abbrev head : List ℕ
head = 33 ∷ 10 ∷ 10 ∷ 32 ∷ 97 ∷ 32 ∷ 98 ∷ 32 ∷ 10 ∷ 50 ∷ 10 ∷ []

-- `3/2` and ` 1200. octave`, each with LF
abbrev fifth : List ℕ
fifth = 51 ∷ 47 ∷ 50 ∷ 10 ∷ []

abbrev octave : List ℕ
octave = 32 ∷ 49 ∷ 50 ∷ 48 ∷ 48 ∷ 46 ∷ 32 ∷ 111 ∷ 99 ∷ 116 ∷ 97 ∷ 118 ∷ 101 ∷ 10 ∷ []

-- `1`, and `y`, which is no item, each with LF
abbrev prime : List ℕ
prime = 49 ∷ 10 ∷ []

abbrev broken : List ℕ
broken = 121 ∷ 10 ∷ []

-- a scale of n items whose description is this part of its text
abbrev scale_with : ℕ → ℕ → ℕ → SclRead
scale_with n start end = record { scl = record { count = n }; description = record { start = start; end = end } }

pub record Samples : Type 0 where
  -- the description is `a b`, without the spaces around it; place 0 takes a place
  pub scale : read_of 3 (head ++ fifth ++ octave) ≡ gives (scale_with 2 4 7)
  pub items : given_in (head ++ fifth ++ octave) ≡ Fraction 3 (Some 2) ∷ Cents (round binary64 false 1200 1) ∷ []
  -- 12: no place at all; place 0 and one item; place 0 alone
  pub no_place : read_of 0 (head ++ fifth ++ octave) ≡ refuses 12 0
  pub one_place : read_of 2 (head ++ fifth ++ octave) ≡ refuses 12 6
  pub place_zero : read_of 1 (head ++ fifth ++ octave) ≡ refuses 12 5
  -- 14: one item for two; three for two
  pub too_few : read_of 8 (head ++ fifth) ≡ refuses 14 0
  pub too_many : read_of 8 (head ++ fifth ++ octave ++ octave) ≡ refuses 14 0
  -- but a bad item comes first, at its line, comments and blank lines counted
  pub bad_first : read_of 8 (head ++ fifth ++ octave ++ octave ++ broken) ≡ refuses 3 8
  pub counted : read_of 8 (head ++ 33 ∷ 10 ∷ 10 ∷ broken) ≡ refuses 3 7
  -- 18: two items, and the last one is 1; a third of 1 for two is 14
  pub beyond : read_of 8 (head ++ prime ++ prime) ≡ refuses 18 0
  pub count_first : read_of 8 (head ++ prime ++ prime ++ prime) ≡ refuses 14 0
  -- one item is never beyond reach: `x`, `1`, `1`
  pub alone : read_of 8 (120 ∷ 10 ∷ prime ++ prime) ≡ gives (scale_with 1 0 1)
  -- 2: no description; no number of notes
  pub nothing : read_of 8 [] ≡ refuses 2 1
  pub no_count : read_of 8 (120 ∷ 10 ∷ 33 ∷ 10 ∷ []) ≡ refuses 2 2

pub samples : Samples
unfolding lines meaning_by meanings line_by starts_from placed_by token_length width_by run lead_of utf8_step utf8_from scan magnitude_of read_signed digit_run_of spelled scan_of read_decimal position_of item_in take_token finished walk_lines given_after description_in is_beyond E L floor_of times_power power_of log_of log_at octaves_of p_of b_of y_of le div round of_int of_bits neg negative
samples =
    record {
      scale = refl;
      items = refl;
      no_place = refl;
      one_place = refl;
      place_zero = refl;
      too_few = refl;
      too_many = refl;
      bad_first = refl;
      counted = refl;
      beyond = refl;
      count_first = refl;
      alone = refl;
      nothing = refl;
      no_count = refl;
    }
