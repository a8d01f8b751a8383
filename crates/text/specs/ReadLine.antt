-- Document 01, "Lines": what a line says, as the code finds it, with the start and the end of each part in the whole text.
-- `Reading` says what a line says, `proofs/LineLanguage` that the two agree. Assumes nothing.
use Rattle.std.specs.Prelude.{List, [], ◌∷◌, Bool, true, ℕ, suc, ◌+◌, ◌≤◌, eqb, length, take}
use Rattle.base.specs.Said.{pick}
use Rattle.text.specs.Cut.{lines}
use Rattle.text.specs.Part.{part}
use Rattle.text.specs.Reading.{Meaning, invalid, blank, comment, content}
use Rattle.white.specs.Trim.{front, back, run, trim_by}
use Rattle.utf8.specs.Utf8Machine.{none_due, utf8_from}
use Rattle.text.specs.declared.line.LineSays.{LineSays}
use Rattle.text.specs.declared.line.LineSays.TheVariants.{NotUtf8, Blank, Comment, Content}

-- space, tab, LF, form feed or CR
abbrev pub splits : ℕ → Bool
splits b = pick (eqb b 32) true (pick (eqb b 9) true (pick (eqb b 10) true (pick (eqb b 12) true (eqb b 13))))

-- how long the token is that m starts with
unfoldable pub token_length : List ℕ → ℕ
token_length [] = 0
token_length (b ∷ s) = pick (splits b) 0 (suc (token_length s))

-- how a reading is carried out: which lines are texts, and how long the trimmed character at the start is (and at the end, backwards)
pub record Way : Type 0 where
  pub valid : List ℕ → Bool
  pub ahead : List ℕ → ℕ
  pub behind : List ℕ → ℕ

-- document 01's reading
abbrev pub strictly : Way
strictly = record { valid = utf8_from none_due; ahead = front; behind = back }

-- what the trimmed part m says
abbrev pub part_meaning : List ℕ → Meaning
part_meaning [] = blank
part_meaning (b ∷ s) = pick (eqb b 33) comment (content (b ∷ s) (take (token_length (b ∷ s)) (b ∷ s)))

-- what the line l says
unfoldable pub meaning_by : Way → List ℕ → Meaning
meaning_by w l = pick (w.valid l) (part_meaning (trim_by w.ahead w.behind l)) invalid

-- what each of the lines says
unfoldable pub meanings : Way → List (List ℕ) → List Meaning
meanings w [] = []
meanings w (l ∷ ls) = meaning_by w l ∷ meanings w ls

-- what the lines of a text say, in document 01's reading
abbrev pub said_in : List ℕ → List Meaning
said_in text = meanings strictly (lines text)

-- what the trimmed part m says, which starts at k: where it starts and ends, and where its token ends
abbrev pub part_at : ℕ → List ℕ → LineSays
part_at k [] = Blank
part_at k (b ∷ s) = pick (eqb b 33) Comment (Content k (k + length (b ∷ s)) (k + token_length (b ∷ s)))

-- what the line l says, which starts at k
unfoldable pub line_by : Way → ℕ → List ℕ → LineSays
line_by w k l = pick (w.valid l) (part_at (k + run w.ahead 0 l) (trim_by w.ahead w.behind l)) NotUtf8

-- what the line of a text from a to e says
abbrev pub line_of : Way → List ℕ → ℕ → ℕ → LineSays
line_of w text a e = line_by w a (part text a e)

-- what an answer says, in the text that it is of
abbrev pub shown : List ℕ → LineSays → Meaning
shown text NotUtf8 = invalid
shown text Blank = blank
shown text Comment = comment
shown text (Content a e t) = content (part text a e) (part text a t)

-- the parts that an answer gives lie in the text, so that they can be handed on
abbrev pub InText : List ℕ → LineSays → Type 0
InText text NotUtf8 = Unit {0}
InText text Blank = Unit {0}
InText text Comment = Unit {0}
InText text (Content a e t) = (a ≤ t) × (t ≤ e) × (e ≤ length text)
