-- Ratios of two frequencies: the Rust's `Ratio`, its f64 steps in its order, once rounded each, with document 01's E and
-- L for exp2 and log2. A ratio stands for its number. Assumes nothing.
use Rattle.std.specs.Prelude.{Bool, ◌&&◌, pos, Float}
use Rattle.std.specs.declared.cmp.Ordering.{Ordering}
use Rattle.std.specs.declared.cmp.Ordering.TheVariants.{Less, Equal, Greater}
use Rattle.std.specs.Float.{binary64}
use Rattle.std.specs.Float.Ieee.{mul, div, neg, lt, of_bits}
use Rattle.base.specs.Said.{Said, gives, pick, and_then}
use Rattle.floats.specs.Floats.{two_to, one_f}
use Rattle.floats.specs.Ranges.{negligible}
use Rattle.explog.specs.Rules.{E, L}
use Rattle.pitch.specs.Given.{given, both_given, computed}

-- 2.0, 12.0, 100.0, 1200.0
abbrev pub two_f : Float
two_f = two_to (pos 1)

abbrev pub twelve_f : Float
twelve_f = of_bits binary64 0x4028_0000_0000_0000

abbrev pub hundred_f : Float
hundred_f = of_bits binary64 0x4059_0000_0000_0000

abbrev pub cents_f : Float
cents_f = of_bits binary64 0x4092_c000_0000_0000

-- a number given as a ratio
abbrev pub from_float : Float → Said Float
from_float x = given x (gives x)

-- "from_cents is cents divided by 1200.0, then E"
abbrev pub from_octaves : Float → Said Float
from_octaves octaves = and_then (E octaves) computed

abbrev pub from_semitones : Float → Said Float
from_semitones semitones = from_octaves (div binary64 semitones twelve_f)

abbrev pub from_cents : Float → Said Float
from_cents cents = from_octaves (div binary64 cents cents_f)

-- "as_cents is L times 12.0, times 100.0"
abbrev pub as_float : Float → Said Float
as_float r = given r (gives r)

abbrev pub as_octaves : Float → Said Float
as_octaves r = given r (L r)

abbrev pub as_semitones : Float → Said Float
as_semitones r = and_then (as_octaves r) (λ octaves. gives (mul binary64 octaves twelve_f))

abbrev pub as_cents : Float → Said Float
as_cents r = and_then (as_semitones r) (λ semitones. gives (mul binary64 semitones hundred_f))

-- one ratio on top of another, and below it
abbrev pub stretched_by : Float → Float → Said Float
stretched_by r stretch = both_given r stretch (computed (mul binary64 r stretch))

abbrev pub deviation_from : Float → Float → Said Float
deviation_from r reference = both_given r reference (computed (div binary64 r reference))

-- so many times the interval, and so many parts of it
abbrev pub repeated : Float → Float → Said Float
repeated r times = and_then (as_octaves r) (λ octaves. from_octaves (mul binary64 octaves times))

abbrev pub divided_into : Float → Float → Said Float
divided_into r steps = and_then (as_octaves r) (λ octaves. from_octaves (div binary64 octaves steps))

-- how many steps make an interval of so many octaves: a plain number, infinite or no number for a step of 1.0
abbrev pub steps_from : Float → Float → Said Float
steps_from step octaves = and_then (as_octaves step) (λ size. gives (div binary64 octaves size))

abbrev pub steps_of_size : Float → Float → Said Float
steps_of_size r step = and_then (as_octaves r) (steps_from step)

-- the interval downwards, and upwards
abbrev pub inverse : Float → Said Float
inverse r = given r (computed (div binary64 one_f r))

unfoldable pub upward : Float → Float
upward r = pick (lt (neg one_f) r && lt r one_f) (div binary64 one_f r) r

abbrev pub absolute : Float → Said Float
absolute r = given r (computed (upward r))

-- "quotient in [0.999999, 1.000001)"
abbrev pub is_negligible : Float → Said Bool
is_negligible r = given r (gives (negligible r))

-- which of two ratios is the higher
abbrev pub order_of : Float → Float → Ordering
order_of r other = pick (lt r other) Less (pick (lt other r) Greater Equal)

abbrev pub total_cmp : Float → Float → Said Ordering
total_cmp r other = both_given r other (gives (order_of r other))
