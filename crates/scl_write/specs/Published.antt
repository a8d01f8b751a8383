-- Scala's scale files as published (from knowledge of Scala's pages, of which no copy is at hand): comments, a description, the number
-- of notes, and pitch values, one to a line. Degree 0 is implicit and never written. Assumes nothing.
use Rattle.std.specs.Prelude.{◌≡◌, Bool, true, false, List, [], ◌∷◌, ◌++◌, ◌⊎◌, ℕ, ◌+◌, ◌<◌, ◌≤◌, pos, length}
use Rattle.floats.specs.Units.{negative}
use Rattle.integers.specs.Digits.{AllDigits, decimal}
use Rattle.integers.specs.IntegerText.{Digits}
use Rattle.printing.specs.PrintText.{scaled_of}
use Rattle.text.specs.Lines.{NoLF, EndsCR, Lines}
use Rattle.utf8.specs.Characters.{Each}
use Rattle.writing.specs.PublishedLines.{PublishedComment, Kept, Blank, Number}
use Rattle.scl.specs.Items.{denom_of}
use Rattle.scl.specs.declared.Item.{Item}
use Rattle.scl.specs.declared.Item.TheVariants.{Cents, Fraction}

-- what a pitch value is: n / 10^k cents, with its sign, or the ratio of two numbers
pub data Pitch : Type 0 where
  cents : (minus : Bool) (n k : ℕ) → Pitch
  ratio : (numer denom : ℕ) → Pitch

-- "With a period in it, it is cents"; "Negative cents are allowed"
pub record CentsText (t : List ℕ) (minus : Bool) (n k : ℕ) : Type 0 where
  pub whole : List ℕ
  pub part : List ℕ
  pub first : AllDigits whole
  pub second : AllDigits part
  pub some : 0 < length whole + length part
  pub writes : ((minus ≡ false) × (t ≡ whole ++ 46 ∷ part)) ⊎ ((minus ≡ true) × (t ≡ 45 ∷ whole ++ 46 ∷ part))
  pub value : n ≡ decimal (whole ++ part)
  pub places : k ≡ length part

-- "else a ratio. A ratio has one slash; a whole number with neither period nor slash, as `2`, means `2/1`." Ratios are of numbers above
-- 0: "Negative ratios are a read error"
pub data PitchText (t : List ℕ) : Pitch → Type 0 where
  cents : {minus : Bool} {n k : ℕ} → CentsText t minus n k → PitchText t (Pitch.cents minus n k)
  ratio : (a b : List ℕ) (n d : ℕ) → t ≡ a ++ 47 ∷ b → Digits a n → Digits b d → 0 < n → 0 < d → PitchText t (Pitch.ratio n d)
  whole : (n : ℕ) → Digits t n → 0 < n → PitchText t (Pitch.ratio n 1)

-- what may follow a value: "Anything after a valid pitch value is ignored". Period (46), slash (47) and digits (48 to 57) are never after
-- it but of it: `5/4E` is 5/4 and `408.cents` is 408. cents, while `5/x`, `5/-4` and `1.2.3` are no values
abbrev pub Ignored : List ℕ → Type 0
Ignored [] = Unit {0}
Ignored (b ∷ l) = (46 ≤ b) × (b ≤ 57) → ⊥

-- the value t leads the line l: "Spaces and tabs before a value are allowed"
pub record LedBy (l t : List ℕ) : Type 0 where
  pub before : List ℕ
  pub rest : List ℕ
  pub whole : l ≡ before ++ (t ++ rest)
  pub blank : Each Blank before
  pub ignored : Ignored rest

-- each line has its value
abbrev pub PitchLines : List (List ℕ) → List Pitch → Type 0
PitchLines [] [] = Unit {0}
PitchLines [] (p ∷ ps) = ⊥
PitchLines (l ∷ ls) [] = ⊥
PitchLines (l ∷ ls) (p ∷ ps) = ((t : List ℕ) × LedBy l t × PitchText t p) × PitchLines ls ps

-- what a scale file says: its description, and the pitch values after the implicit degree 0
pub record Scale : Type 0 where
  pub description : List ℕ
  pub pitches : List Pitch

-- THE FORMAT: of the lines that are no comments the first is the description, which may be blank; the second is "the number of notes, the
-- number of lines with pitch values that follow"; the others are those lines
pub record PublishedText (s : List ℕ) (m : Scale) : Type 0 where
  pub parts : List (List ℕ)
  pub count : List ℕ
  pub rest : List (List ℕ)
  pub lines : Lines s parts
  pub keeps : Kept parts (m.description ∷ count ∷ rest)
  pub notes : Number count (pos (length m.pitches))
  pub values : PitchLines rest m.pitches

-- a description that is one line of such a file: no LF in it, no CR at its end, and no comment
pub record OneLine (description : List ℕ) : Type 0 where
  pub no_lf : NoLF description
  pub no_cr : EndsCR description → ⊥
  pub no_comment : PublishedComment description → ⊥

-- the pitch value of an item of the library: cents to three decimals, ratios exactly, an integer over 1
abbrev pub published_pitch : Item → Pitch
published_pitch (Cents c) = Pitch.cents (negative c) (scaled_of 3 c) 3
published_pitch (Fraction n d) = Pitch.ratio n (denom_of d)

abbrev pub pitches_of : List Item → List Pitch
pitches_of [] = []
pitches_of (i ∷ is) = published_pitch i ∷ pitches_of is

-- what a scale of the library says in the published format
abbrev pub published_of : List ℕ → List Item → Scale
published_of description items = record { description = description; pitches = pitches_of items }
