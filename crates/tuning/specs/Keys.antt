-- Pitches of keys: the Rust's `pitch_of` of a key and `maybe_pitch_of`. Order: all 10s, then 16, 11 for d, 17, 11 for the degree, 11 for
-- the root offset, 18 (document 01, "Keys" and "Scales and searches"). Assumes nothing.
use Rattle.std.specs.Prelude.{List, ℤ, Float}
use Rattle.base.specs.Said.{Said, and_then}
use Rattle.key.specs.Keys.{key_after, steps_between}
use Rattle.key.specs.declared.PianoKey.{PianoKey}
use Rattle.scl.specs.declared.Item.{Item}
use Rattle.kbm.specs.Degree.{degree_of}
use Rattle.kbm.specs.Table.{table_of}
use Rattle.kbm.specs.declared.Kbm.{Kbm}
use Rattle.kbm.specs.declared.KbmRoot.{KbmRoot}
use Rattle.relative.specs.Pitches.{pitch_of}

-- `ref_key.num_keys_before(key)` is the degree
abbrev pub key_pitch_of : List Item → KbmRoot → PianoKey → Said Float
key_pitch_of items root key = and_then (steps_between root.reference key) (pitch_of items root)

-- `kbm.scale_degree_of(key).map(..)`
abbrev pub maybe_pitch_of : List Item → Kbm → List ℤ → PianoKey → Said Float
maybe_pitch_of items kbm map key = and_then (degree_of kbm (table_of kbm.count map) key) (pitch_of items kbm.root)

-- `origin.plus_steps(mapping_degree)`, then by key
abbrev pub maybe_degree_pitch_of : List Item → Kbm → List ℤ → ℤ → Said Float
maybe_degree_pitch_of items kbm map degree = and_then (key_after kbm.root.reference degree) (maybe_pitch_of items kbm map)
