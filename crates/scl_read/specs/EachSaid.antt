-- EACH REFUSAL OF Refusals.antt, said of some text, but for 13: such a text has over 65,535 items. Assumes nothing.
use Rattle.std.specs.Prelude.{◌≡◌, List, [], ◌∷◌, ℕ}
use Rattle.base.specs.Said.{refuses}
use Rattle.scl_read.specs.Reader.{read_of}

-- a scale of description `x` and one note, this one, on the third line, read into tables with two places draws this number there
abbrev pub ItemRefused : List ℕ → ℕ → Type 0
ItemRefused item number = read_of 2 (120 ∷ 10 ∷ 49 ∷ 10 ∷ item) ≡ refuses number 3

pub record EachSaid : Type 0 where
  -- with their line: a byte that is no UTF-8, `y`, `1..`, `y/2`, `5/ 4`, `1.e5`, `3/0`; and `2` where place 0 has the one place
  pub not_utf8 : ItemRefused (255 ∷ []) 1
  pub int_value : ItemRefused (121 ∷ []) 3
  pub cents_value : ItemRefused (49 ∷ 46 ∷ 46 ∷ []) 4
  pub numer_value : ItemRefused (121 ∷ 47 ∷ 50 ∷ []) 5
  pub denom_value : ItemRefused (53 ∷ 47 ∷ 32 ∷ 52 ∷ []) 6
  pub unsupported : ItemRefused (49 ∷ 46 ∷ 101 ∷ 53 ∷ []) 9
  pub unusable : ItemRefused (51 ∷ 47 ∷ 48 ∷ []) 10
  pub no_room : read_of 1 (120 ∷ 10 ∷ 49 ∷ 10 ∷ 50 ∷ []) ≡ refuses 12 3
  -- which required line is missing: nothing; `x`
  pub no_description : read_of 2 [] ≡ refuses 2 1
  pub no_count : read_of 2 (120 ∷ []) ≡ refuses 2 2
  -- after the last line: `x`, `1`; `x`, `2`, `1`, `1`
  pub inconsistent : read_of 2 (120 ∷ 10 ∷ 49 ∷ []) ≡ refuses 14 0
  pub beyond : read_of 3 (120 ∷ 10 ∷ 50 ∷ 10 ∷ 49 ∷ 10 ∷ 49 ∷ []) ≡ refuses 18 0
  -- no place
  pub no_place : read_of 0 [] ≡ refuses 12 0
