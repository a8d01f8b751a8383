-- Searches by pitch: the Rust's `find_by_pitch` and its sorted sister; "Searched ratios lie in 2^-64..2^64 (10 if given so, 18 if
-- computed)" (document 01, "Scales and searches"). Assumes nothing.
use Rattle.std.specs.Prelude.{List, ℤ, Float}
use Rattle.base.specs.Numbers.{beyond_reach}
use Rattle.base.specs.Said.{Said, refuses, pick, and_then}
use Rattle.floats.specs.Ranges.{in_search}
use Rattle.pitch.specs.Pitches.{between_pitches}
use Rattle.sorting.specs.Entries.{Entry}
use Rattle.scl.specs.declared.Item.{Item}
use Rattle.kbm.specs.declared.KbmRoot.{KbmRoot}
use Rattle.relative.specs.Pitches.{root_degree, root_pitch}
use Rattle.searching.specs.Search.{search_of}
use Rattle.searching.specs.declared.Found.{Found}

-- a computed ratio
abbrev pub computed_search : List Item → List Entry → Float → Said Found
computed_search items es ratio = pick (in_search ratio) (search_of items es ratio) (refuses beyond_reach 0)

-- `scl.find_by..(Ratio::between_pitches(root_pitch, pitch))`, where the degree `root` sounds the reference pitch
unfoldable pub pitch_search_from : List Item → List Entry → Float → ℤ → Float → Said Found
pitch_search_from items es reference root pitch = and_then (root_pitch items reference root) (λ hz. and_then (between_pitches hz pitch) (computed_search items es))

-- counted from the reference key
unfoldable pub pitch_search_of : List Item → List Entry → KbmRoot → Float → Said Found
pitch_search_of items es root pitch = and_then (root_degree root) (λ at. pitch_search_from items es root.pitch.0 at pitch)
