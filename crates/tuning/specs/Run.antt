-- The pitches of a run of keys: an addition to document 01's calls. "Each key answers as the single call does": `key_pitches` is the single
-- call's `maybe_pitch_of`, key for key, and `key_pitches_from_middle` is `maybe_pitch_from_middle` (document 02, W1). Assumes nothing.
use Rattle.std.specs.Prelude.{Bool, ◌&&◌, List, ℕ, zero, suc, leb, ℤ, pos, Float, set}
use Rattle.base.specs.Numbers.{no_room, unusable}
use Rattle.base.specs.Said.{Said, gives, refuses, pick, and_then}
use Rattle.key.specs.Keys.{key_after}
use Rattle.key.specs.declared.PianoKey.{PianoKey}
use Rattle.kbm.specs.Degree.{degree_of}
use Rattle.kbm.specs.Root.{is_root}
use Rattle.kbm.specs.Table.{table_of, is_table}
use Rattle.kbm.specs.declared.Counting.{Counting}
use Rattle.kbm.specs.declared.Kbm.{Kbm}
use Rattle.scl.specs.Table.{ItemTable, is_items}
use Rattle.scl.specs.declared.Item.{Item}
use Rattle.relative.specs.Relative.{relative_pitch_of}
use Rattle.relative.specs.Pitches.{root_pitch, above}
use Rattle.tuning.specs.Keys.{maybe_pitch_of}
use Rattle.tuning.specs.Middle.{maybe_pitch_from_middle, sounding_degree, counted_pitch}

-- the key so many steps above the first
abbrev pub key_at : PianoKey → ℕ → Said PianoKey
key_at first k = key_after first (pos k)

-- what each key of the run says: the single call's answer, and 11 where there is no such key
abbrev pub key_pitches : List Item → Kbm → List ℤ → PianoKey → ℕ → Said Float
key_pitches items kbm map first k = and_then (key_at first k) (maybe_pitch_of items kbm map)

-- the same counted from the middle key: "The asked key's refusals come first" for each key of the run
abbrev pub key_pitches_from_middle : List Item → Kbm → List ℤ → PianoKey → ℕ → Said Float
key_pitches_from_middle items kbm map first k = and_then (key_at first k) (maybe_pitch_from_middle items kbm map)

-- and in either counting
abbrev pub counted_pitches : Counting → List Item → Kbm → List ℤ → PianoKey → ℕ → Said Float
counted_pitches counting items kbm map first k = and_then (key_at first k) (counted_pitch counting items kbm map)

-- ---- the same with the root's pitch computed before
abbrev pub root_said : Counting → List Item → Kbm → List ℤ → Said Float
root_said counting items kbm map = and_then (sounding_degree counting kbm (table_of kbm.count map)) (root_pitch items kbm.root.pitch.0)

abbrev pub key_said : List Item → Kbm → List ℤ → Said Float → PianoKey → Said Float
key_said items kbm map root key = and_then (degree_of kbm (table_of kbm.count map) key) (λ degree. above root (relative_pitch_of items degree))

abbrev pub step_said : List Item → Kbm → List ℤ → Said Float → PianoKey → ℕ → Said Float
step_said items kbm map root first k = and_then (key_at first k) (key_said items kbm map root)

-- ---- the slices
-- a pitch goes to its place, a refusal leaves it
abbrev pub sounded : Said Float → ℕ → List Float → List Float
sounded (gives x) k l = set l k x
sounded (refuses n d) k l = l

-- the number that goes beside it, 0 for a pitch
abbrev pub number_beside : Said Float → ℕ
number_beside (gives x) = 0
number_beside (refuses n d) = n

-- the first n places
unfoldable pub sounded_to : (ℕ → Said Float) → ℕ → List Float → List Float
sounded_to f zero l = l
sounded_to f (suc n) l = sounded (f n) n (sounded_to f n l)

unfoldable pub numbers_to : (ℕ → Said Float) → ℕ → List ℕ → List ℕ
numbers_to f zero l = l
numbers_to f (suc n) l = set (numbers_to f n l) n (number_beside (f n))

-- ---- the call
abbrev pub is_tuning : ℕ → ItemTable → Kbm → List ℤ → Bool
is_tuning count t kbm map = is_items count t && (is_root kbm.root && is_table kbm.count map)

-- 10, then 12
abbrev pub run_of : ℕ → ItemTable → Kbm → List ℤ → ℕ → ℕ → ℕ → Said (Unit {0})
run_of count t kbm map keys hz numbers = pick (is_tuning count t kbm map) (pick (leb keys hz && leb keys numbers) (gives tt) (refuses no_room 0)) (refuses unusable 0)

-- a refusal of the run leaves both slices as they were
abbrev pub after_hz : Said (Unit {0}) → (ℕ → Said Float) → ℕ → List Float → List Float
after_hz (gives u) f n l = sounded_to f n l
after_hz (refuses number d) f n l = l

abbrev pub after_numbers : Said (Unit {0}) → (ℕ → Said Float) → ℕ → List ℕ → List ℕ
after_numbers (gives u) f n l = numbers_to f n l
after_numbers (refuses number d) f n l = l
