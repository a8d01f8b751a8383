-- SAMPLES OF PITCHES IN BOTH COUNTINGS, on lent columns: a scale and a mapping as harp players write them (document 02, W1), an unmapped
-- reference key, and the order of the refusals. Assumes nothing.
use Rattle.std.specs.Prelude.{◌≡◌, false, List, [], ◌∷◌, ℕ, ℤ, pos, negsuc, Float}
use Rattle.std.specs.Float.{fin}
use Rattle.base.specs.Said.{Said, gives, refuses}
use Rattle.floats.specs.Floats.{zero_f}
use Rattle.kbm.specs.Table.{unmapped}
use Rattle.kbm.specs.declared.Kbm.{Kbm}
use Rattle.key.specs.Keys.{key}
use Rattle.scl.specs.Table.{ItemTable, item_table, items_in}
use Rattle.telbijan_mappings.specs.Mappings.{mapping_with}
use Rattle.tuning.specs.Run.{key_pitches_from_middle, run_of, after_hz, after_numbers}
use Rattle.telbijan_tuning.specs.Tunings.{maybe_pitch_said, maybe_pitch_from_middle_said}

-- place 0, 9/8, 5/4 and 2/1
abbrev pub harp_items : ItemTable
harp_items = item_table (0 ∷ 1 ∷ 1 ∷ 1 ∷ []) (zero_f ∷ zero_f ∷ zero_f ∷ zero_f ∷ []) (0 ∷ 9 ∷ 5 ∷ 2 ∷ []) (0 ∷ 8 ∷ 4 ∷ 1 ∷ [])

-- 440 Hz, and what that is over 4.5
abbrev pub concert_hz : Float
concert_hz = fin false 55 (pos 3)

abbrev pub low_hz : Float
low_hz = fin false 1720124857676231 (negsuc 43)

-- three entries, keys 0 to 127, middle key 62, reference key 69 at 440 Hz, octave 3
abbrev pub harp : Kbm
harp = mapping_with 3 (pos 0) (pos 128) (pos 69) concert_hz (negsuc 6) (pos 3)

-- the same, reference key 60, middle key 62
abbrev pub gapped : Kbm
gapped = mapping_with 3 (pos 0) (pos 128) (pos 60) concert_hz (pos 2) (pos 5)

-- one entry, keys 0 to 9, reference key 3000, middle key 0, octave 1; and no entry, offset -2147483648
abbrev pub high : Kbm
high = mapping_with 1 (pos 0) (pos 10) (pos 3000) concert_hz (negsuc 2999) (pos 1)

abbrev pub least : Kbm
least = mapping_with 0 (pos 0) (pos 128) (pos 60) concert_hz (negsuc 2147483647) (pos 0)

-- entries 0 1 2, and 0 x 2
abbrev pub full : List ℤ
full = pos 0 ∷ pos 1 ∷ pos 2 ∷ []

abbrev pub holed : List ℤ
holed = pos 0 ∷ unmapped ∷ pos 2 ∷ []

-- what a key of a mapping says in each counting
abbrev pub old : Kbm → List ℤ → ℤ → Said Float
old kbm map number = maybe_pitch_said 3 harp_items kbm map (key number)

abbrev pub new : Kbm → List ℤ → ℤ → Said Float
new kbm map number = maybe_pitch_from_middle_said 3 harp_items kbm map (key number)

-- what a run of so many keys leaves in three places of 0.0 and of 99
abbrev pub run : Kbm → List ℤ → ℤ → ℕ → List Float × List ℕ
run kbm map first keys =
    let said = run_of 3 harp_items kbm map keys 3 3 in
    let each = key_pitches_from_middle (items_in 3 harp_items) kbm map (key first) in
    (after_hz said each keys (zero_f ∷ zero_f ∷ zero_f ∷ []), after_numbers said each keys (99 ∷ 99 ∷ 99 ∷ []))

pub record MiddleSamples : Type 0 where
  -- the reference key sounds its pitch in the new counting, and another in the old one
  pub reference_old : old harp full (pos 69) ≡ gives low_hz
  pub reference_new : new harp full (pos 69) ≡ gives concert_hz
  pub middle_old : old harp full (pos 62) ≡ gives (fin false 8600624288381155 (negsuc 48))
  pub middle_new : new harp full (pos 62) ≡ gives low_hz
  pub under_new : new harp full (pos 60) ≡ gives (fin false 55 (pos 0))
  -- an unmapped reference key: the asked key's refusals come first
  pub none : new gapped holed (pos 62) ≡ refuses 19 0
  pub gap_first : new gapped holed (pos 63) ≡ refuses 17 0
  pub range_first : new gapped holed (pos 128) ≡ refuses 16 0
  -- 10 before all else, for the table, for the root and for the items
  pub table_first : new gapped (pos 0 ∷ pos 40000 ∷ pos 2 ∷ []) (pos 128) ≡ refuses 10 0
  pub root_first : new (mapping_with 3 (pos 0) (pos 128) (pos 60) zero_f (pos 2) (pos 5)) holed (pos 128) ≡ refuses 10 0
  pub items_first : maybe_pitch_from_middle_said 4 harp_items gapped holed (key (pos 128)) ≡ refuses 10 0
  -- of the reference key 11 for its distance; 18 last
  pub far : new least [] (pos 59) ≡ refuses 11 0
  pub beyond : new high (pos 0 ∷ []) (pos 0) ≡ refuses 18 0
  -- a run of three keys: numbers 17, 19, 19 beside keys 60 to 62 with no pitch stored; the harp's keys 61 and 62, and 16 beside key 128
  pub silent_run : run gapped holed (pos 60) 3 ≡ (zero_f ∷ zero_f ∷ zero_f ∷ [], 17 ∷ 19 ∷ 19 ∷ [])
  pub harp_run : run harp full (pos 61) 2 ≡ (fin false 8600624288381155 (negsuc 46) ∷ low_hz ∷ zero_f ∷ [], 0 ∷ 0 ∷ 99 ∷ [])
  pub last_run : run harp full (pos 127) 2 ≡ (fin false 8600624288381155 (negsuc 24) ∷ zero_f ∷ zero_f ∷ [], 0 ∷ 16 ∷ 99 ∷ [])
