-- "the repeat rule (the first in that order stays, quotient in [0.999999, 1.000001))": document 01, "Scales and searches"; the
-- Rust's `dedup_pitch_values_prefer_first_declared`. Assumes nothing.
use Rattle.std.specs.Prelude.{Bool, List, [], ◌∷◌, Float}
use Rattle.std.specs.Float.Ieee.{div}
use Rattle.std.specs.Float.{binary64}
use Rattle.base.specs.Said.{pick}
use Rattle.floats.specs.Ranges.{negligible}
use Rattle.sorting.specs.Entries.{Entry}
use Rattle.sorting.specs.Order.{lower, sort_by}

-- `a.deviation_from(c).is_negligible()`
abbrev pub near : Float → Float → Bool
near a c = negligible (div binary64 a c)

-- each entry that repeats the last one kept gives way to it
abbrev pub keep_from : Entry → List Entry → List Entry
keep_from kept [] = []
keep_from kept (e ∷ es) = pick (near e.ratio kept.ratio) (kept ∷ keep_from kept es) (e ∷ keep_from e es)

-- the first one is kept
abbrev pub keep : List Entry → List Entry
keep [] = []
keep (e ∷ es) = keep_from e (e ∷ es)

-- stable order, then the repeat rule
abbrev pub arranged : List Entry → List Entry
arranged es = keep (sort_by lower es)
