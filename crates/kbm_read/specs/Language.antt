-- THE LANGUAGE OF MAPPINGS, document 01, "Lines" and "Mapping", and document 02, W8: which texts are mapping files, what one says, and
-- the earliest fault of any other. No reader is named here. Assumes nothing.
use Rattle.std.specs.Prelude.{◌≡◌, true, false, List, [], ◌∷◌, ◌++◌, ◌⊎◌, ℕ, zero, suc, ◌-◌, ◌^◌, ◌≤◌, ◌<◌, Float, ℤ, pos, ◌+ℤ◌, ◌-ℤ◌, length, ◌≤ℤ◌, ◌<ℤ◌, Some, None, Option}
use Rattle.base.specs.Numbers.{int_value, float_value, keyboard_mapping, unsupported_numeral, unusable, overflow, no_room, too_large, inconsistent_count}
use Rattle.base.specs.Numbers.{backwards_range}
use Rattle.floats.specs.Ranges.{in_pitch}
use Rattle.kbm.specs.declared.Kbm.{Kbm}
use Rattle.key.specs.Keys.{key}
use Rattle.decimals.specs.DecimalText.{Form, FloatText, UnsupportedText, DecimalText}
use Rattle.integers.specs.IntegerText.{IntText, NoInteger}
use Rattle.listing.specs.Listing.{Format}
use Rattle.listing.specs.Listing as listing
use Rattle.text.specs.Reading.{Meaning, Says, strict}

-- "Size (u16), first and last key (i32), middle key, reference key (i16), reference pitch (f64, 7), formal octave (i16)"
pub data Required : Type 0 where
  size : Required
  first : Required
  last : Required
  middle : Required
  reference : Required
  pitch : Required
  octave : Required

-- the required lines in their order
abbrev pub required : List Required
required = Required.size ∷ Required.first ∷ Required.last ∷ Required.middle ∷ Required.reference ∷ Required.pitch ∷ Required.octave ∷ []

-- what kind of value a required line has
abbrev pub Value : Required → Type 0
Value Required.size = ℕ
Value Required.first = ℤ
Value Required.last = ℤ
Value Required.middle = ℤ
Value Required.reference = ℤ
Value Required.pitch = Float
Value Required.octave = ℤ

-- what a later line looks back at: the first key. (None looks before that line was read; until then it is 0)
abbrev pub Seen : Type 0
Seen = ℤ

abbrev pub unseen : Seen
unseen = pos 0

abbrev pub see : (f : Required) → Seen → Value f → Seen
see Required.size key n = key
see Required.first key z = z
see Required.last key z = key
see Required.middle key z = key
see Required.reference key z = key
see Required.pitch key v = key
see Required.octave key z = key

-- the token t has the value v there, after that first key: the last key is not 2147483647 and not below the first, and the pitch is a
-- supported decimal from 2^-10 to 2^20
abbrev pub Gives : (f : Required) → Seen → List ℕ → Value f → Type 0
Gives Required.size key t n = IntText false (2 ^ 16) t (pos n)
Gives Required.first key t z = IntText true (2 ^ 31) t z
Gives Required.last key t z = IntText true (2 ^ 31) t z × (z ≡ pos 2147483647 → ⊥) × (key ≤ℤ z)
Gives Required.middle key t z = IntText true (2 ^ 15) t z
Gives Required.reference key t z = IntText true (2 ^ 15) t z
Gives Required.pitch key t v = DecimalText t v × (in_pitch v ≡ true)
Gives Required.octave key t z = IntText true (2 ^ 15) t z

-- "Refuse a mapping whose last key is below its first. [..] 25, at the last-key line, after 3 and 11 there" (document 02, W8)
abbrev pub Backwards : Seen → List ℕ → ℕ → Type 0
Backwards key t n = (n ≡ backwards_range) × (z : ℤ) × IntText true (2 ^ 31) t z × (z ≡ pos 2147483647 → ⊥) × (z <ℤ key)

-- n is the first number of 01's order that the token t draws there: syntax (3, 7), 9, 10, 11, and then 25
abbrev pub Wrong : Required → Seen → List ℕ → ℕ → Type 0
Wrong Required.size key t n = NoInteger int_value false (2 ^ 16) t n
Wrong Required.first key t n = NoInteger int_value true (2 ^ 31) t n
Wrong Required.last key t n =
    NoInteger int_value true (2 ^ 31) t n ⊎
    (((n ≡ overflow) × IntText true (2 ^ 31) t (pos 2147483647)) ⊎ Backwards key t n)
Wrong Required.middle key t n = NoInteger int_value true (2 ^ 15) t n
Wrong Required.reference key t n = NoInteger int_value true (2 ^ 15) t n
Wrong Required.pitch key t n =
    ((n ≡ float_value) × ((f : Form) → FloatText t f → ⊥)) ⊎
    (((n ≡ unsupported_numeral) × UnsupportedText t) ⊎ ((n ≡ unusable) × (v : Float) × DecimalText t v × (in_pitch v ≡ false)))
Wrong Required.octave key t n = NoInteger int_value true (2 ^ 15) t n

-- "then entries: `x` or `X`, or i16"
pub data EntryText (t : List ℕ) : (Option ℤ) → Type 0 where
  small : t ≡ 120 ∷ [] → EntryText t None
  large : t ≡ 88 ∷ [] → EntryText t None
  degree : (z : ℤ) → IntText true (2 ^ 15) t z → EntryText t (Some z)

-- t is no entry: 8
abbrev pub NoEntry : List ℕ → ℕ → Type 0
NoEntry t n = (n ≡ keyboard_mapping) × ((e : (Option ℤ)) → EntryText t e → ⊥)

-- THE FORMAT: seven required lines and then entries, each by its token
abbrev pub mapping : Format
mapping = record {
  Word = List ℕ;
  word = λ m t. t;
  Required = Required;
  required = required;
  Value = Value;
  Seen = Seen;
  unseen = unseen;
  see = see;
  Gives = Gives;
  Wrong = Wrong;
  Entry = Option ℤ;
  Is = EntryText;
  Bad = NoEntry;
}

-- a value for each of these lines; the tokens give these lines these values; the tokens are these entries; each line is UTF-8, and these
-- are the tokens of those that do not drop out
abbrev pub Values : List Required → Type 0
Values = listing.Values mapping

abbrev pub GiveAll : Seen → (fs : List Required) → List (List ℕ) → Values fs → Type 0
GiveAll = listing.GiveAll mapping

abbrev pub Entries : List (List ℕ) → List (Option ℤ) → Type 0
Entries = listing.Entries mapping

abbrev pub Tokens : List Meaning → List (List ℕ) → Type 0
Tokens = listing.Words mapping

-- lines that give the required lines `done` their values, and then entries
abbrev pub Begins : List Meaning → (done : List Required) → Values done → List (Option ℤ) → Type 0
Begins = listing.Begins mapping

-- the size that the required lines say
abbrev pub size_of : Values required → ℕ
size_of vs = vs.0

-- the mapping that they say: the end is the key after the last, the offset is how far the middle key lies above the reference key
abbrev pub mapping_from : Values required → Kbm
mapping_from (n, (lowest, (highest, (mid, (ref, (hz, (formal, _))))))) =
    record {
      root = record { reference = key ref; pitch = record { 0 = hz }; offset = mid -ℤ ref };
      start = key lowest;
      end = key (highest +ℤ pos 1);
      octave = formal;
      count = n;
    }

-- so many unmapped entries
unfoldable pub blanks : ℕ → List (Option ℤ)
blanks zero = []
blanks (suc n) = None ∷ blanks n

-- "missing entries are added as unmapped up to the size"
abbrev pub added : ℕ → List (Option ℤ) → List (Option ℤ)
added n es = es ++ blanks (n - length es)

-- THE LANGUAGE: the text s is a mapping file of k with the entries es
pub record MappingText (s : List ℕ) (k : Kbm) (es : List (Option ℤ)) : Type 0 where
  pub says : List Meaning
  pub text : Says strict s says
  pub values : Values required
  pub given : List (Option ℤ)
  pub lines : Begins says required values given
  pub not_large : length (added (size_of values) given) ≤ 65535
  pub consistent : length given ≤ size_of values
  pub mapping : k ≡ mapping_from values
  pub entries : es ≡ added (size_of values) given

-- the text s is a mapping file
abbrev pub IsMapping : List ℕ → Type 0
IsMapping s = (k : Kbm) × (es : List (Option ℤ)) × MappingText s k es

-- n is the first number that is drawn after the last line: 12 where the added entries have no place, 13, 14
abbrev pub WrongEnd : ℕ → ℕ → List (Option ℤ) → ℕ → Type 0
WrongEnd room top es n =
    ((n ≡ no_room) × (length es < top) × (room < top)) ⊎
    (((n ≡ too_large) × (65535 < length (added top es))) ⊎
    ((n ≡ inconsistent_count) × (length (added top es) ≤ 65535) × (top < length es)))

-- THE EARLIEST FAULT of lines, where the table has so many places
abbrev pub Fault : ℕ → List Meaning → ℕ → ℕ → Type 0
Fault room = listing.Fault mapping (λ vs es n. WrongEnd room (size_of vs) es n) room

-- the earliest fault of a text
pub record FaultText (room : ℕ) (s : List ℕ) (n d : ℕ) : Type 0 where
  pub says : List Meaning
  pub text : Says strict s says
  pub fault : Fault room says n d
