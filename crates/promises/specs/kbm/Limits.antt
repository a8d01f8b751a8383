-- THE LIMITS OF DOCUMENT 01, and of W8 in 02, on Scala's published format: what a published text must be besides, so that it is taken,
-- given room (12), each with the sentence that it comes from and the number that it draws. There are no others (`published_exactly`):
-- comments, blanks before a value, and after it a blank and anything, are taken as published. Assumes nothing.
use Rattle.std.specs.Prelude.{◌≡◌, true, false, List, [], ◌∷◌, ◌++◌, ℕ, ◌^◌, ◌≤◌, pos, length, ◌≤ℤ◌}
use Rattle.std.specs.Float.Ieee.{round}
use Rattle.std.specs.Float.{binary64}
use Rattle.base.specs.Integers.{in_i32}
use Rattle.decimals.specs.DecimalText.{from_nonzero}
use Rattle.floats.specs.Ranges.{in_pitch}
use Rattle.kbm.specs.Table.{in_i16, AreI16}
use Rattle.kbm_write.specs.Published as P
use Rattle.utf8.specs.Characters.{Utf8}

-- each of the lines is UTF-8
abbrev pub AllUtf8 : List (List ℕ) → Type 0
AllUtf8 [] = Unit {0}
AllUtf8 (l ∷ ls) = Utf8 l × AllUtf8 ls

-- the text p, whose meaning is m, is within them
pub record WithinLimits {s : List ℕ} {m : P.Mapping} (p : P.PublishedText s m) : Type 0 where
  -- "Each line, comment or not, must be UTF-8": 1
  pub utf8 : AllUtf8 p.parts
  -- "Size (u16)": 3. "`-` only for signed types", so that `-0` is no size: 3
  pub size : m.size ≤ 65535
  pub unsigned : (t : List ℕ) → p.size.token ≡ 45 ∷ t → ⊥
  -- "first and last key (i32)": 3
  pub first : in_i32 m.first ≡ true
  pub last : in_i32 m.last ≡ true
  -- "Last key 2147483647 gives 11 at its line"
  pub before_end : m.last ≡ pos 2147483647 → ⊥
  -- "Refuse a mapping whose last key is below its first": 25 (document 02, W8)
  pub forward : m.first ≤ℤ m.last
  -- "middle key, reference key (i16)": 3
  pub middle : in_i16 m.middle ≡ true
  pub reference : in_i16 m.reference ≡ true
  -- "9 is given exactly for .. over 18 digits from the first nonzero digit on, or over 18 digits after the dot"
  pub digits : length (from_nonzero (p.frequency.value.whole ++ p.frequency.value.part)) ≤ 18
  pub places : m.places ≤ 18
  -- "All others give the nearest f64 .. limits are judged on it"; "Pitch is usable from 2^-10 to 2^20 Hz, else 10"
  pub pitch : in_pitch (round binary64 false m.hertz (10 ^ m.places)) ≡ true
  -- "formal octave (i16)": 3
  pub octave : in_i16 m.octave ≡ true
  -- "then entries: .. i16 (8)"
  pub degrees : AreI16 m.given
