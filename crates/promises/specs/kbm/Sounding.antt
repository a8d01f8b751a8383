-- DEGREES HERE AND AS PUBLISHED: what Scala's pages give a key, within document 01's numbers; and where the two part: 01 counts round
-- from the reference key, the pages from the middle key, as document 02, W1, does. Assumes nothing.
use Rattle.std.specs.Prelude.{◌≡◌, true, false, ◌↔◌, ℤ, pos, ◌-ℤ◌}
use Rattle.base.specs.Integers.{in_i32}
use Rattle.base.specs.Numbers.{overflow, key_out_of_range, unmapped_key}
use Rattle.base.specs.Said.{Said, gives, refuses}
use Rattle.kbm.specs.Degree.{scale_degree_of}
use Rattle.kbm.specs.Middle.{scale_degree_from_middle}
use Rattle.kbm.specs.Samples.{sample, sample_table}
use Rattle.kbm.specs.Table.{table_of}
use Rattle.key.specs.Keys.{key}
use Rattle.kbm_write.specs.Published as P
use Rattle.pitch.specs.declared.Pitch.{Pitch}

-- the key is retuned and sounds the degree d as published; its distance from the middle key and d are numbers of 32 bits ("d is key minus
-- middle key"; of d "outside i32 gives 11", of the degree "11 exactly when that exact value leaves i32")
pub record SoundsWithin (m : P.Mapping) (key d : ℤ) : Type 0 where
  pub retuned : P.Retuned m key
  pub near : in_i32 (key -ℤ m.middle) ≡ true
  pub held : in_i32 d ≡ true
  pub sounds : P.Sounds m key d

-- the key is retuned and sounds no degree as published; its distance from the middle key is a number of 32 bits ("Order: 16, 11 for d, 17")
pub record SilentWithin (m : P.Mapping) (key : ℤ) : Type 0 where
  pub retuned : P.Retuned m key
  pub within : in_i32 (key -ℤ m.middle) ≡ true
  pub silent : (d : ℤ) → P.Sounds m key d → ⊥

-- the key is retuned, and its distance from the middle key, or the degree that it sounds as published, is no number of 32 bits
pub data SoundsPast (m : P.Mapping) (key : ℤ) : Type 0 where
  distance : P.Retuned m key → in_i32 (key -ℤ m.middle) ≡ false → SoundsPast m key
  degree : P.Retuned m key → (d : ℤ) → P.Sounds m key d → in_i32 d ≡ false → SoundsPast m key

-- THE ANSWER FOR A KEY IS AS PUBLISHED: 16 exactly where it is not retuned; of a retuned key 11 exactly where a number passes 32 bits, and
-- else a degree exactly where it sounds that one, 17 exactly where it sounds none
pub record AnsweredAs (m : P.Mapping) (key : ℤ) (answer : Said ℤ) : Type 0 where
  pub degree : (d : ℤ) → (answer ≡ gives d) ↔ SoundsWithin m key d
  pub outside : (answer ≡ refuses key_out_of_range 0) ↔ (P.Retuned m key → ⊥)
  pub silent : (answer ≡ refuses unmapped_key 0) ↔ SilentWithin m key
  pub past : (answer ≡ refuses overflow 0) ↔ SoundsPast m key

-- THE PARTING: the mapping of 01's samples (entries 0, x, 2, octave 5, keys 0 to 127, reference 60) with middle key 62. Counted from the
-- middle key its keys have what they sound as published
abbrev pub as_published : Pitch → P.Mapping
as_published pitch = P.published_of (sample pitch (pos 2)) (table_of 3 sample_table)

pub record Parting (pitch : Pitch) : Type 0 where
  pub middle : (as_published pitch).middle ≡ pos 62
  -- key 60 has degree 0 by 01; none counted from the middle key, as published
  pub here60 : scale_degree_of (sample pitch (pos 2)) sample_table (key (pos 60)) ≡ gives (pos 0)
  pub middle60 : scale_degree_from_middle (sample pitch (pos 2)) sample_table (key (pos 60)) ≡ refuses unmapped_key 0
  pub there60 : (d : ℤ) → P.Sounds (as_published pitch) (pos 60) d → ⊥
  -- key 62 has degree 2 by 01; 0 counted from the middle key, as published, and no other
  pub here62 : scale_degree_of (sample pitch (pos 2)) sample_table (key (pos 62)) ≡ gives (pos 2)
  pub middle62 : scale_degree_from_middle (sample pitch (pos 2)) sample_table (key (pos 62)) ≡ gives (pos 0)
  pub there62 : P.Sounds (as_published pitch) (pos 62) (pos 0)
  pub only62 : (d : ℤ) → P.Sounds (as_published pitch) (pos 62) d → d ≡ pos 0
