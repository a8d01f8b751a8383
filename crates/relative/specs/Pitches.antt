-- Pitches above a root: the Rust's `root_pitch` and the products with it. "A root offset of -2147483648 gives 11 in pitch calls, after
-- the key's refusals [..], before 18" (document 01, "Scales and searches"). Assumes nothing.
use Rattle.std.specs.Prelude.{List, ℤ, pos, ◌-ℤ◌, Float}
use Rattle.base.specs.Integers.{held}
use Rattle.base.specs.Said.{Said, and_then}
use Rattle.pitch.specs.Pitches.{pitch_times, pitch_over}
use Rattle.sorting.specs.Entries.{Entry}
use Rattle.scl.specs.declared.Item.{Item}
use Rattle.kbm.specs.declared.KbmRoot.{KbmRoot}
use Rattle.relative.specs.Relative.{relative_pitch_of, sorted_relative_pitch_of}

-- ---- where the degree `root` sounds the reference pitch
-- `kbm.ref_pitch / scl.relative_pitch_of(root)`
unfoldable pub root_pitch : List Item → Float → ℤ → Said Float
root_pitch items reference root = and_then (relative_pitch_of items root) (pitch_over reference)

-- `root_pitch * ratio`
abbrev pub above : Said Float → Said Float → Said Float
above first ratio = and_then first (λ hz. and_then ratio (pitch_times hz))

unfoldable pub pitch_from : List Item → Float → ℤ → ℤ → Said Float
pitch_from items reference root degree = above (root_pitch items reference root) (relative_pitch_of items degree)

unfoldable pub sorted_pitch_from : List Item → List Entry → Float → ℤ → ℤ → Said Float
sorted_pitch_from items es reference root degree = above (root_pitch items reference root) (sorted_relative_pitch_of items es degree)

-- ---- counted from the reference key
-- `-kbm.root_offset`: 11 for -2147483648
abbrev pub root_degree : KbmRoot → Said ℤ
root_degree root = held (pos 0 -ℤ root.offset)

unfoldable pub pitch_of : List Item → KbmRoot → ℤ → Said Float
pitch_of items root degree = and_then (root_degree root) (λ at. pitch_from items root.pitch.0 at degree)

unfoldable pub sorted_pitch_of : List Item → List Entry → KbmRoot → ℤ → Said Float
sorted_pitch_of items es root degree = and_then (root_degree root) (λ at. sorted_pitch_from items es root.pitch.0 at degree)
