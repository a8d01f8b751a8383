-- The degree of a key: document 01, "Keys". Over exact integers, and over the entries of a mapping as a plain list.
-- Assumes nothing.
use Rattle.std.specs.Prelude.{Bool, ◌&&◌, List, [], ◌∷◌, ℤ, ◌+ℤ◌, ◌-ℤ◌, ◌*ℤ◌, length, get_or, Some, None, Option}
use Rattle.std.specs.Int.Signed.{le_z, lt_z}
use Rattle.base.specs.Integers.{floor_div, floor_mod, held}
use Rattle.base.specs.Numbers.{unusable, key_out_of_range, unmapped_key}
use Rattle.base.specs.Said.{Said, gives, refuses, pick, and_then}
use Rattle.key.specs.declared.PianoKey.{PianoKey}
use Rattle.kbm.specs.Table.{is_table, table_of}
use Rattle.kbm.specs.declared.Kbm.{Kbm}

-- "entry r unmapped gives 17; else the degree is entry + q*formal octave, 11 exactly when that exact value leaves i32"
abbrev pub degree_of_entry : (Option ℤ) → ℤ → ℤ → Said ℤ
degree_of_entry None q octave = refuses unmapped_key 0
degree_of_entry (Some entry) q octave = held (entry +ℤ q *ℤ octave)

-- "With no entries the degree is d. Else d = q*size + r, 0 <= r < size"; the entry reached is entry r
unfoldable pub degree_at : ℤ → ℤ → List (Option ℤ) → Said ℤ
degree_at d octave [] = gives d
degree_at d octave (e ∷ es) =
    degree_of_entry (get_or (e ∷ es) (floor_mod d (length (e ∷ es))) None) (floor_div d (length (e ∷ es))) octave

-- key is in first..last: start is the first, end the one after the last
abbrev pub in_range : PianoKey → PianoKey → PianoKey → Bool
in_range start end key = le_z start.0 key.0 && lt_z key.0 end.0

-- "let d = key - reference key; outside i32 gives 11"
abbrev pub degree_from : PianoKey → PianoKey → ℤ → List (Option ℤ) → Said ℤ
degree_from reference key octave es = and_then (held (key.0 -ℤ reference.0)) (λ d. degree_at d octave es)

-- the degree of a key in a mapping of these entries. "Order: 16, 11 for d, 17, 11"
abbrev pub degree_of : Kbm → List (Option ℤ) → PianoKey → Said ℤ
degree_of kbm es key =
    pick (in_range kbm.start kbm.end key) (degree_from kbm.root.reference key kbm.octave es) (refuses key_out_of_range 0)

-- the same with a lent table. "Before all else a call on lent tables gives 10 unless the count fits them, items are usable"
unfoldable pub scale_degree_of : Kbm → List ℤ → PianoKey → Said ℤ
scale_degree_of kbm map key = pick (is_table kbm.count map) (degree_of kbm (table_of kbm.count map) key) (refuses unusable 0)
