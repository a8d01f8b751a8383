-- Document 01, "Logarithm and power": "A computed pitch or ratio outside 2^-900..2^900 gives 18 at that step. A pitch or
-- ratio given to a call must lie there too, else 10". Assumes nothing.
use Rattle.std.specs.Prelude.{◌&&◌, Float}
use Rattle.base.specs.Numbers.{unusable, beyond_reach}
use Rattle.base.specs.Said.{Said, gives, refuses, pick}
use Rattle.floats.specs.Ranges.{in_reach}

-- x was given: 10 outside the range
abbrev pub given : {A : Type 0} → Float → Said A → Said A
given x s = pick (in_reach x) s (refuses unusable 0)

-- x and y were given
abbrev pub both_given : {A : Type 0} → Float → Float → Said A → Said A
both_given x y s = pick (in_reach x && in_reach y) s (refuses unusable 0)

-- x was computed: 18 outside the range
abbrev pub computed : Float → Said Float
computed x = pick (in_reach x) (gives x) (refuses beyond_reach 0)
