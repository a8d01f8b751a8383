-- The bytes of an answer: each field after a space.
use Rattle.std.specs.Prelude.{ℕ, ◌/◌, ◌%◌, ◌^◌, ◌-◌, List, [], ◌∷◌, ◌++◌, ◌==◌, if◌then◌else◌, length, ℤ, pos, Bool, ◌&&◌, false, zero, suc, slice_index, slice_index_or}
use Rattle.std.specs.List.{flat_map}
use Rattle.std.specs.Ordering.{int_eq}
use Rattle.std.specs.Fmt as Fmt
use Rattle.std.specs.Fmt.{signed_decimal, digit_glyph, padded_integral, format_spec}
use Rattle.std.specs.Float.Ieee.{to_bits}
use lib.Ieee.{Float, binary64, eq, of_bits, nan}

-- the name that begins an answer: `?` where there is none
abbrev pub name_text : List ℕ → List ℕ
name_text name = if length name == 0 then 63 ∷ [] else name

-- a word
abbrev pub word_field : List ℕ → List ℕ
word_field word = 32 ∷ word

-- a natural number
abbrev pub natural_field : ℕ → List ℕ
natural_field n = 32 ∷ Fmt.decimal n

-- an integer
abbrev pub int_field : ℤ → List ℕ
int_field z = 32 ∷ signed_decimal z

-- a refusal's number, and its detail
abbrev pub refusal_field : ℕ → ℕ → List ℕ
refusal_field number detail = 32 ∷ 33 ∷ (Fmt.decimal number ++ natural_field detail)

-- 16 hex digits, as `{:016x}` writes them
abbrev pub sixteen_digits : ℕ → List ℕ
sixteen_digits n = padded_integral (format_spec 32 0 4 16 (2 ^ 64 - 1)) false [] (Fmt.digits 16 false n)

-- the bits of a number, which is what equals itself; 0 for a NaN
abbrev pub bits_of : Float → ℕ
bits_of x = if eq x x then to_bits binary64 x else 0

-- a float: the digits of its bits, or `nan`
abbrev pub float_field : Float → List ℕ
float_field x = 32 ∷ (if eq x x then sixteen_digits (bits_of x) else 110 ∷ 97 ∷ 110 ∷ [])

-- the two hex digits of a byte
abbrev pub two_digits : ℕ → List ℕ
two_digits b = digit_glyph false (b / 16) ∷ digit_glyph false (b % 16) ∷ []

-- bytes: the digits of each, or `-` for none
abbrev pub bytes_field : List ℕ → List ℕ
bytes_field bytes = 32 ∷ (if length bytes == 0 then 45 ∷ [] else flat_map two_digits bytes)

-- the places of a table, after their number
abbrev pub table_field : List ℤ → List ℕ
table_field map = natural_field (length map) ++ flat_map int_field map

-- the numbers that lent columns hold before a call
abbrev pub two : Float
two = of_bits binary64 0x4000_0000_0000_0000

abbrev pub half : Float
half = of_bits binary64 0x3fe0_0000_0000_0000

-- an item as lent columns hold it
abbrev pub lent_item : ℕ → Float → ℕ → ℕ → Bool
lent_item kind cents numer denom = kind == 9 && (eq cents two && (numer == 7 && denom == 7))

-- a scale's item; `.` where it is as lent
abbrev pub item_fields : ℕ → Float → ℕ → ℕ → List ℕ
item_fields kind cents numer denom = if lent_item kind cents numer denom then 32 ∷ 46 ∷ []
    else natural_field kind ++ (float_field cents ++ (natural_field numer ++ natural_field denom))

-- an entry as lent columns hold it
abbrev pub lent_entry : ℕ → Float → ℤ → Bool
lent_entry place ratio wraps = place == 8 && (eq ratio half && int_eq wraps (pos 8))

-- an entry of a sorted list; `.` where it is as lent
abbrev pub entry_fields : ℕ → Float → ℤ → List ℕ
entry_fields place ratio wraps = if lent_entry place ratio wraps then 32 ∷ 46 ∷ []
    else natural_field place ++ (float_field ratio ++ int_field wraps)

-- a place of the columns of a scale: its item and its entry
unfoldable pub place_fields : ℕ → Float → ℕ → ℕ → ℕ → Float → ℤ → List ℕ
place_fields kind cents numer denom place ratio wraps = item_fields kind cents numer denom ++ entry_fields place ratio wraps

-- the first n places of the columns
unfoldable pub places_fields : List ℕ → List Float → List ℕ → List ℕ → List ℕ → List Float → List ℤ → ℕ → List ℕ
places_fields kind cents numer denom place ratio wraps zero = []
places_fields kind cents numer denom place ratio wraps (suc k) = places_fields kind cents numer denom place ratio wraps k
    ++ place_fields (slice_index kind k) (slice_index_or cents k nan) (slice_index numer k) (slice_index denom k)
    (slice_index place k) (slice_index_or ratio k nan) (slice_index_or wraps k (pos 0))
