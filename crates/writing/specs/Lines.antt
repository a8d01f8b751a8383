-- Document 01, "Writing": "Every line ends in LF"; a number of a line, and the byte after it. Assumes nothing.
use Rattle.std.specs.Prelude.{List, [], ◌∷◌, ◌++◌, ℕ, pos, Some, None, Option}
use Rattle.printing.specs.PrintText.{whole_text}

-- a line: its text, and LF
abbrev pub line : List ℕ → List ℕ
line t = t ++ (10 ∷ [])

-- lines one after another
unfoldable pub lines_text : List (List ℕ) → List ℕ
lines_text [] = []
lines_text (t ∷ ts) = line t ++ lines_text ts

-- a number, and a byte after it
abbrev pub number_text : ℕ → ℕ → List ℕ
number_text n end = whole_text (pos n) ++ (end ∷ [])

-- the place that a writer reached
abbrev pub place_reached : (Option ℕ) → ℕ
place_reached (Some next) = next
place_reached None = 0
