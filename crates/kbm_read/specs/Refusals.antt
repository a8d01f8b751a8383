-- WHAT A READ OF A MAPPING MAY REFUSE WITH, number and detail: the list in the header's comment on `telbijan_read_kbm`, sentence for
-- sentence. Document 01, "Lines", "Mapping" and "Numbers that answer"; document 02, W8. Assumes nothing.
use Rattle.std.specs.Prelude.{◌≡◌, List, [], ◌∷◌, ℕ, ◌≤◌, length}
use Rattle.listing.specs.Refusals.{OneOf}
use Rattle.text.specs.Lines.{Lines}

pub data MayRefuse (text : List ℕ) (n d : ℕ) : Type 0 where
  -- "1, 3, 7, 8, 9, 10, 11, 12 and 25 with their line": lines are counted from 1
  at_line : OneOf (1 ∷ 3 ∷ 7 ∷ 8 ∷ 9 ∷ 10 ∷ 11 ∷ 12 ∷ 25 ∷ []) n → (lines : List (List ℕ)) → Lines text lines →
      1 ≤ d → d ≤ length lines → MayRefuse text n d
  -- "2 with which required line is missing (1 size, 2 first key, 3 last key, 4 middle key, 5 reference key, 6 pitch, 7 formal octave)"
  missing : n ≡ 2 → OneOf (1 ∷ 2 ∷ 3 ∷ 4 ∷ 5 ∷ 6 ∷ 7 ∷ []) d → MayRefuse text n d
  -- "12, 13 and 14 with 0, after the last line"
  at_end : OneOf (12 ∷ 13 ∷ 14 ∷ []) n → d ≡ 0 → MayRefuse text n d
