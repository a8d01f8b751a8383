-- Document 01, "Numbers that answer", and those that document 02 adds: a name for each number. Assumes nothing.
use Rattle.std.specs.Prelude.{ℕ}
use Rattle.base.specs.declared.Reason.{Reason}
use Rattle.base.specs.declared.Reason.TheVariants as reason

-- a line is not UTF-8
abbrev pub not_utf8 : ℕ
not_utf8 = 1

-- a required line is missing
abbrev pub line_missing : ℕ
line_missing = 2

-- IntValue, CentsValue, Numer, Denom
abbrev pub int_value : ℕ
int_value = 3

abbrev pub cents_value : ℕ
cents_value = 4

abbrev pub numer_value : ℕ
numer_value = 5

abbrev pub denom_value : ℕ
denom_value = 6

-- FloatValue, KeyboardMapping
abbrev pub float_value : ℕ
float_value = 7

abbrev pub keyboard_mapping : ℕ
keyboard_mapping = 8

-- unsupported numeral
abbrev pub unsupported_numeral : ℕ
unsupported_numeral = 9

-- unusable value
abbrev pub unusable : ℕ
unusable = 10

-- overflow
abbrev pub overflow : ℕ
overflow = 11

-- no room
abbrev pub no_room : ℕ
no_room = 12

-- over 65,535 entries
abbrev pub too_large : ℕ
too_large = 13

-- InconsistentNumberOfNotes, InconsistentNumberOfItems
abbrev pub inconsistent_count : ℕ
inconsistent_count = 14

-- a builder with entries and no formal octave
abbrev pub formal_octave_missing : ℕ
formal_octave_missing = 15

-- key outside the range, key unmapped
abbrev pub key_out_of_range : ℕ
key_out_of_range = 16

abbrev pub unmapped_key : ℕ
unmapped_key = 17

-- beyond reach
abbrev pub beyond_reach : ℕ
beyond_reach = 18

-- "19, reference key unmapped" (document 02, W1)
abbrev pub reference_unmapped : ℕ
reference_unmapped = 19

-- "Refuse a mapping whose last key is below its first. [..] 25" (document 02, W8)
abbrev pub backwards_range : ℕ
backwards_range = 25

-- "29, no fraction" (document 02, W14)
abbrev pub no_fraction : ℕ
no_fraction = 29

-- the number of a reason
abbrev pub number_of : Reason → ℕ
number_of reason.NotUtf8 = not_utf8
number_of reason.LineMissing = line_missing
number_of reason.IntValue = int_value
number_of reason.CentsValue = cents_value
number_of reason.Numer = numer_value
number_of reason.Denom = denom_value
number_of reason.FloatValue = float_value
number_of reason.KeyboardMapping = keyboard_mapping
number_of reason.UnsupportedNumeral = unsupported_numeral
number_of reason.Unusable = unusable
number_of reason.Overflow = overflow
number_of reason.NoRoom = no_room
number_of reason.TooLarge = too_large
number_of reason.InconsistentCount = inconsistent_count
number_of reason.FormalOctaveMissing = formal_octave_missing
number_of reason.KeyOutOfRange = key_out_of_range
number_of reason.UnmappedKey = unmapped_key
number_of reason.BeyondReach = beyond_reach
number_of reason.ReferenceUnmapped = reference_unmapped
number_of reason.BackwardsRange = backwards_range
number_of reason.NoFraction = no_fraction
