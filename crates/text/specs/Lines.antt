-- Document 01, "Lines": "A line ends at LF or at the end of the text; a CR directly before LF goes with it. No line follows a
-- final LF, and an empty text has none." The lines are counted from 1 by their place in the list. Assumes nothing.
use Rattle.std.specs.Prelude.{◌≡◌, List, [], ◌∷◌, ◌++◌, ℕ}

-- no byte is LF (10)
abbrev pub NoLF : List ℕ → Type 0
NoLF [] = Unit {0}
NoLF (b ∷ l) = (b ≡ 10 → ⊥) × NoLF l

-- the last byte is CR (13)
abbrev pub EndsCR : List ℕ → Type 0
EndsCR [] = ⊥
EndsCR (b ∷ []) = b ≡ 13
EndsCR (b ∷ c ∷ l) = EndsCR (c ∷ l)

-- the text is these lines: none of an empty text; a last one that the end of the text ends; one that LF or CR LF ends,
-- before the lines of the rest
pub data Lines : List ℕ → List (List ℕ) → Type 0 where
  none : Lines [] []
  last : {b : ℕ} {l : List ℕ} → NoLF (b ∷ l) → Lines (b ∷ l) ((b ∷ l) ∷ [])
  lf : (l : List ℕ) {s : List ℕ} {ls : List (List ℕ)} → NoLF l → (EndsCR l → ⊥) → Lines s ls → Lines (l ++ 10 ∷ s) (l ∷ ls)
  crlf : (l : List ℕ) {s : List ℕ} {ls : List (List ℕ)} → NoLF l → Lines s ls → Lines (l ++ 13 ∷ 10 ∷ s) (l ∷ ls)
