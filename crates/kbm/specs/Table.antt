-- A mapping's lent table, as the interface fixes it: the number of each entry, and what a table must be to be used ("Before
-- all else a call on lent tables gives 10 unless the count fits them, items are usable"). Assumes nothing.
use Rattle.std.specs.Prelude.{◌≡◌, Bool, true, false, ◌&&◌, ◌||◌, List, [], ◌∷◌, ℕ, leb, eqb, ℤ, pos, negsuc, length, take, Some, None, Option}
use Rattle.std.specs.Int.Signed.{le_z}
use Rattle.base.specs.Said.{pick}

-- -2147483648, which stands for an unmapped entry
abbrev pub unmapped : ℤ
unmapped = negsuc 2147483647

-- the number of an entry
abbrev pub number_of : (Option ℤ) → ℤ
number_of (Some degree) = degree
number_of None = unmapped

-- the numbers of entries
unfoldable pub numbers_of : List (Option ℤ) → List ℤ
numbers_of [] = []
numbers_of (e ∷ es) = number_of e ∷ numbers_of es

-- z is -2147483648
abbrev pub is_unmapped : ℤ → Bool
is_unmapped (pos n) = false
is_unmapped (negsuc n) = eqb n 2147483647

-- -32768..32767
abbrev pub in_i16 : ℤ → Bool
in_i16 z = le_z (negsuc 32767) z && le_z z (pos 32767)

-- an entry's degree is a number of 16 bits
abbrev pub IsI16 : (Option ℤ) → Type 0
IsI16 (Some degree) = in_i16 degree ≡ true
IsI16 None = Unit {0}

-- each entry's is
abbrev pub AreI16 : List (Option ℤ) → Type 0
AreI16 [] = Unit {0}
AreI16 (e ∷ es) = IsI16 e × AreI16 es

-- z is the number of an entry
abbrev pub is_entry : ℤ → Bool
is_entry z = is_unmapped z || in_i16 z

-- the entry of a number
abbrev pub entry_of : ℤ → (Option ℤ)
entry_of z = pick (is_unmapped z) None (Some z)

-- each of these numbers is an entry's
unfoldable pub are_entries : List ℤ → Bool
are_entries [] = true
are_entries (z ∷ zs) = is_entry z && are_entries zs

-- the entries of these numbers
unfoldable pub entries_of : List ℤ → List (Option ℤ)
entries_of [] = []
entries_of (z ∷ zs) = entry_of z ∷ entries_of zs

-- the count fits the table, and each of its places holds an entry
abbrev pub is_table : ℕ → List ℤ → Bool
is_table count map = leb count (length map) && are_entries (take count map)

-- the entries of a table
abbrev pub table_of : ℕ → List ℤ → List (Option ℤ)
table_of count map = entries_of (take count map)
