-- WHAT A READ OF A SCALE MAY REFUSE WITH, number and detail: the list in the header's comment on `telbijan_read_scl`, sentence for
-- sentence. Document 01, "Lines", "Scale" and "Numbers that answer". Assumes nothing.
use Rattle.std.specs.Prelude.{◌≡◌, List, [], ◌∷◌, ℕ, ◌≤◌, length}
use Rattle.listing.specs.Refusals.{OneOf}
use Rattle.text.specs.Lines.{Lines}

pub data MayRefuse (text : List ℕ) (room n d : ℕ) : Type 0 where
  -- "1, 3, 4, 5, 6, 9, 10 and 12 with their line": lines are counted from 1
  at_line : OneOf (1 ∷ 3 ∷ 4 ∷ 5 ∷ 6 ∷ 9 ∷ 10 ∷ 12 ∷ []) n → (lines : List (List ℕ)) → Lines text lines →
      1 ≤ d → d ≤ length lines → MayRefuse text room n d
  -- "2 with which required line is missing (1 description, 2 count)"
  missing : n ≡ 2 → OneOf (1 ∷ 2 ∷ []) d → MayRefuse text room n d
  -- "13, 14 and 18 with 0, after the last line"
  at_end : OneOf (13 ∷ 14 ∷ 18 ∷ []) n → d ≡ 0 → MayRefuse text room n d
  -- "and 12 with 0, first, where a column has no place"
  no_place : n ≡ 12 → d ≡ 0 → room ≡ 0 → MayRefuse text room n d
