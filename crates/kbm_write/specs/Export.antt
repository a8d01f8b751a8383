-- Document 01, "Writing": the bytes that a mapping is written as, "the seven lines (last = end - 1; middle = reference +
-- offset; 11 if either is outside i32), then entries. .. Every line ends in LF". Assumes nothing.
use Rattle.std.specs.Prelude.{◌≡◌, true, false, ◌&&◌, List, [], ◌∷◌, ◌++◌, ℕ, ℤ, pos, ◌-ℤ◌, Float, Some, None, Option}
use Rattle.base.specs.Integers.{in_i32, held}
use Rattle.base.specs.Numbers.{unusable}
use Rattle.base.specs.Said.{Said, refuses, pick, and_then}
use Rattle.floats.specs.Ranges.{in_pitch}
use Rattle.printing.specs.PrintText.{text_of, whole_text}
use Rattle.writing.specs.Fitted.{fitted}
use Rattle.writing.specs.Lines.{lines_text}
use Rattle.kbm.specs.Middle.{middle_of}
use Rattle.kbm.specs.Table.{is_table, entries_of, table_of}
use Rattle.kbm.specs.declared.Kbm.{Kbm}

-- the first five of the seven lines: size, first and last key, middle and reference key
abbrev pub key_texts : ℤ → ℤ → ℤ → ℤ → ℤ → List (List ℕ)
key_texts size first last middle reference = whole_text size ∷ whole_text first ∷ whole_text last ∷ whole_text middle ∷ whole_text reference ∷ []

-- the other two: the pitch in Hz with three decimals, the formal octave
abbrev pub sound_texts : Float → ℤ → List (List ℕ)
sound_texts pitch octave = text_of 3 false pitch ∷ whole_text octave ∷ []

-- the last key: the one before the end
abbrev pub last_key_of : Kbm → ℤ
last_key_of kbm = kbm.end.0 -ℤ pos 1

-- the middle key: so far above the reference key as the root says
abbrev pub middle_key_of : Kbm → ℤ
middle_key_of kbm = middle_of kbm.root

-- an entry: its degree, or `x` where it is unmapped
abbrev pub entry_text : (Option ℤ) → List ℕ
entry_text (Some degree) = whole_text degree
entry_text None = 120 ∷ []

-- the entries, one to a line
unfoldable pub entry_texts : List (Option ℤ) → List (List ℕ)
entry_texts [] = []
entry_texts (e ∷ es) = entry_text e ∷ entry_texts es

-- the lines of a table's entries
abbrev pub table_text : List ℤ → List ℕ
table_text map = lines_text (entry_texts (entries_of map))

-- the seven lines, then the entries
abbrev pub mapping_text : ℤ → ℤ → ℤ → ℤ → ℤ → Float → ℤ → List (Option ℤ) → List ℕ
mapping_text size first last middle reference pitch octave entries =
    lines_text ((key_texts size first last middle reference ++ sound_texts pitch octave) ++ entry_texts entries)

-- the bytes of a mapping with these entries
abbrev pub export_text : Kbm → List (Option ℤ) → List ℕ
export_text kbm entries =
    mapping_text (pos kbm.count) kbm.start.0 (last_key_of kbm) (middle_key_of kbm) kbm.root.reference.0 kbm.root.pitch.0 kbm.octave entries

-- 11 for a last or middle key outside i32; else the text, by its room
abbrev pub held_text : Kbm → List (Option ℤ) → ℕ → Said (List ℕ)
held_text kbm entries room =
    and_then (held (last_key_of kbm)) (λ last. and_then (held (middle_key_of kbm)) (λ middle. fitted room (export_text kbm entries)))

-- what an export writes into so many bytes: 10 for an unusable table or pitch, before all else
unfoldable pub export_of : Kbm → List ℤ → ℕ → Said (List ℕ)
export_of kbm map room =
    pick (is_table kbm.count map && in_pitch kbm.root.pitch.0) (held_text kbm (table_of kbm.count map) room) (refuses unusable 0)

-- a mapping that can be written: "10 and 11 come before 12"
pub record Writable (kbm : Kbm) (map : List ℤ) : Type 0 where
  pub table : is_table kbm.count map ≡ true
  pub pitch : in_pitch kbm.root.pitch.0 ≡ true
  pub last : in_i32 (last_key_of kbm) ≡ true
  pub middle : in_i32 (middle_key_of kbm) ≡ true
