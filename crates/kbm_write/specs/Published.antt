-- Scala's keyboard mappings as published (from knowledge of Scala's pages, of which no copy is at hand): ISO 8859-1, so that each
-- byte is a character; comments; seven numbers, one to a line; degrees counted from the middle key. Assumes nothing.
use Rattle.std.specs.Prelude.{◌≡◌, List, [], ◌∷◌, ◌++◌, ℕ, ◌≤◌, ℤ, pos, ◌+ℤ◌, ◌-ℤ◌, ◌*ℤ◌, length, get_or, ◌≤ℤ◌, Some, None, Option}
use Rattle.base.specs.Integers.{Divides}
use Rattle.text.specs.Lines.{Lines}
use Rattle.decimals.specs.DecimalText as Decimal
use Rattle.integers.specs.Digits.{decimal}
use Rattle.kbm.specs.declared.Kbm.{Kbm}
use Rattle.printing.specs.PrintText.{scaled_of}
pub use Rattle.writing.specs.PublishedLines.{PublishedComment, Kept, Blank, Ends, Stands, Whole, Number}
use Rattle.kbm_write.specs.Export.{last_key_of, middle_key_of}

-- a frequency of n / 10^k Hz, "as 440.0"
pub record Hertz (t : List ℕ) (n k : ℕ) : Type 0 where
  pub whole : List ℕ
  pub part : List ℕ
  pub digits : Decimal.DottedDigits t whole part
  pub value : n ≡ decimal (whole ++ part)
  pub places : k ≡ length part

-- a degree, or "`x` for a key that is not mapped"
pub data Degree (t : List ℕ) : (Option ℤ) → Type 0 where
  cross : t ≡ 120 ∷ [] → Degree t None
  degree : (z : ℤ) → Whole t z → Degree t (Some z)

-- each line has its degree
abbrev pub Degrees : List (List ℕ) → List (Option ℤ) → Type 0
Degrees [] [] = Unit {0}
Degrees [] (e ∷ es) = ⊥
Degrees (l ∷ ls) [] = ⊥
Degrees (l ∷ ls) (e ∷ es) = ((t : List ℕ) × Stands l t × Degree t e) × Degrees ls es

-- what a mapping file says: its seven numbers, the frequency as hertz / 10^places, and the degrees that are written
pub record Mapping : Type 0 where
  pub size : ℕ
  pub first : ℤ
  pub last : ℤ
  pub middle : ℤ
  pub reference : ℤ
  pub hertz : ℕ
  pub places : ℕ
  pub octave : ℤ
  pub given : List (Option ℤ)

-- a line with a frequency
pub record Frequency (l : List ℕ) (n k : ℕ) : Type 0 where
  pub token : List ℕ
  pub stands : Stands l token
  pub value : Hertz token n k

-- THE FORMAT: seven numbers in this order, then at most as many degrees as the size says ("Entries at the end may be left out")
pub record PublishedText (s : List ℕ) (m : Mapping) : Type 0 where
  pub l1 : List ℕ
  pub l2 : List ℕ
  pub l3 : List ℕ
  pub l4 : List ℕ
  pub l5 : List ℕ
  pub l6 : List ℕ
  pub l7 : List ℕ
  pub parts : List (List ℕ)
  pub rest : List (List ℕ)
  pub lines : Lines s parts
  pub keeps : Kept parts (l1 ∷ l2 ∷ l3 ∷ l4 ∷ l5 ∷ l6 ∷ l7 ∷ rest)
  pub size : Number l1 (pos m.size)
  pub first : Number l2 m.first
  pub last : Number l3 m.last
  pub middle : Number l4 m.middle
  pub reference : Number l5 m.reference
  pub frequency : Frequency l6 m.hertz m.places
  pub octave : Number l7 m.octave
  pub degrees : Degrees rest m.given
  pub most : length m.given ≤ m.size

-- the degree that a key sounds: linear for size 0; else the middle key has the first entry, and each copy of the pattern lies a
-- formal octave from the next. Entries that are left out are unmapped
pub data Sounds (m : Mapping) (key degree : ℤ) : Type 0 where
  linear : m.size ≡ 0 → degree ≡ key -ℤ m.middle → Sounds m key degree
  pattern : (q : ℤ) (r : ℕ) (z : ℤ) → Divides (key -ℤ m.middle) m.size q r → get_or m.given r None ≡ Some z → degree ≡ z +ℤ q *ℤ m.octave → Sounds m key degree

-- "first MIDI note to retune; last MIDI note to retune". A MIDI note is 0 to 127: that bound is left out on purpose, here and of the four lines
-- with a key, since 01 has keys of 32 bits and no such bound
abbrev pub Retuned : Mapping → ℤ → Type 0
Retuned m key = (m.first ≤ℤ key) × (key ≤ℤ m.last)

-- what a mapping of the library says in the published format: the frequency with three decimals
abbrev pub published_of : Kbm → List (Option ℤ) → Mapping
published_of kbm es =
    record {
      size = kbm.count;
      first = kbm.start.0;
      last = last_key_of kbm;
      middle = middle_key_of kbm;
      reference = kbm.root.reference.0;
      hertz = scaled_of 3 kbm.root.pitch.0;
      places = 3;
      octave = kbm.octave;
      given = es;
    }
