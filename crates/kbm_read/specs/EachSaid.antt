-- EACH REFUSAL OF Refusals.antt, said of some text, but for 13: such a text has over 65,535 entries. Assumes nothing.
use Rattle.std.specs.Prelude.{◌≡◌, List, [], ◌∷◌, ◌++◌, ℕ}
use Rattle.base.specs.Said.{refuses}
use Rattle.kbm_read.specs.Reader.{read_of}

-- `1`, `0`; two such pairs and `0`, before the pitch; and all seven: `1`, `0`, `1`, `0`, `0`, `9`, `1`, each with LF
abbrev pub pair : List ℕ
pair = 49 ∷ 10 ∷ 48 ∷ 10 ∷ []

abbrev pub five : List ℕ
five = pair ++ pair ++ 48 ∷ 10 ∷ []

abbrev pub seven : List ℕ
seven = five ++ 57 ∷ 10 ∷ 49 ∷ 10 ∷ []

pub record EachSaid : Type 0 where
  -- with their line: a byte that is no UTF-8, `y` for the size, `y` for the pitch, `y` as an entry, `1e5` and `0` as pitches, the last key
  -- 2147483647, an entry where there is no place, and the keys `5`, `4`
  pub not_utf8 : read_of 1 (255 ∷ []) ≡ refuses 1 1
  pub int_value : read_of 1 (121 ∷ []) ≡ refuses 3 1
  pub float_value : read_of 1 (five ++ 121 ∷ []) ≡ refuses 7 6
  pub keyboard_mapping : read_of 1 (seven ++ 121 ∷ []) ≡ refuses 8 8
  pub unsupported : read_of 1 (five ++ 49 ∷ 101 ∷ 53 ∷ []) ≡ refuses 9 6
  pub unusable : read_of 1 (five ++ 48 ∷ []) ≡ refuses 10 6
  pub overflow : read_of 1 (pair ++ 50 ∷ 49 ∷ 52 ∷ 55 ∷ 52 ∷ 56 ∷ 51 ∷ 54 ∷ 52 ∷ 55 ∷ []) ≡ refuses 11 3
  pub no_room : read_of 0 (seven ++ 48 ∷ []) ≡ refuses 12 8
  pub backwards : read_of 1 (49 ∷ 10 ∷ 53 ∷ 10 ∷ 52 ∷ []) ≡ refuses 25 3
  -- which required line is missing
  pub no_size : read_of 1 [] ≡ refuses 2 1
  pub no_first : read_of 1 (49 ∷ []) ≡ refuses 2 2
  pub no_last : read_of 1 pair ≡ refuses 2 3
  pub no_middle : read_of 1 (pair ++ 49 ∷ []) ≡ refuses 2 4
  pub no_reference : read_of 1 (pair ++ pair) ≡ refuses 2 5
  pub no_pitch : read_of 1 five ≡ refuses 2 6
  pub no_octave : read_of 1 (five ++ 57 ∷ []) ≡ refuses 2 7
  -- after the last line: no place for the entry that is added, and two entries for one
  pub none_added : read_of 0 seven ≡ refuses 12 0
  pub inconsistent : read_of 2 (seven ++ 48 ∷ 10 ∷ 48 ∷ []) ≡ refuses 14 0
