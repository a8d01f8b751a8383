-- What Scala's two published formats share (from knowledge of Scala's pages, of which no copy is at hand): ISO 8859-1, so that each
-- byte is a character; comments; a value on its line. Assumes nothing.
use Rattle.std.specs.Prelude.{◌≡◌, List, [], ◌∷◌, ◌++◌, ◌⊎◌, ℕ, ℤ, pos, neg_ℤ}
use Rattle.utf8.specs.Characters.{Each}
use Rattle.integers.specs.IntegerText.{Digits}

-- "A line whose first character (first position) is `!` is a comment"
abbrev pub PublishedComment : List ℕ → Type 0
PublishedComment [] = ⊥
PublishedComment (b ∷ l) = b ≡ 33

-- the lines that are no comments
pub data Kept : List (List ℕ) → List (List ℕ) → Type 0 where
  none : Kept [] []
  comment : {l : List ℕ} {ls ks : List (List ℕ)} → PublishedComment l → Kept ls ks → Kept (l ∷ ls) ks
  kept : {l : List ℕ} {ls ks : List (List ℕ)} → (PublishedComment l → ⊥) → Kept ls ks → Kept (l ∷ ls) (l ∷ ks)

-- space or tab
abbrev pub Blank : ℕ → Type 0
Blank b = (b ≡ 32) ⊎ (b ≡ 9)

-- the end of the line, or a blank
abbrev pub Ends : List ℕ → Type 0
Ends [] = Unit {0}
Ends (b ∷ l) = Blank b

-- the value t stands on the line l, with blanks before it and nothing of its own after it
pub record Stands (l t : List ℕ) : Type 0 where
  pub before : List ℕ
  pub rest : List ℕ
  pub whole : l ≡ before ++ (t ++ rest)
  pub blank : Each Blank before
  pub ends : Ends rest

-- a whole number
pub data Whole (t : List ℕ) (z : ℤ) : Type 0 where
  plain : (n : ℕ) → Digits t n → z ≡ pos n → Whole t z
  minus : (u : List ℕ) (n : ℕ) → t ≡ 45 ∷ u → Digits u n → z ≡ neg_ℤ (pos n) → Whole t z

-- a line with a whole number
pub record Number (l : List ℕ) (z : ℤ) : Type 0 where
  pub token : List ℕ
  pub stands : Stands l token
  pub value : Whole token z
