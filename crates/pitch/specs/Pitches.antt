-- Pitches in Hz: the Rust's `Pitch`. A pitch stands for its number. Assumes nothing.
use Rattle.std.specs.Prelude.{Float}
use Rattle.std.specs.Float.{binary64}
use Rattle.std.specs.Float.Ieee.{mul, div}
use Rattle.base.specs.Said.{Said, gives}
use Rattle.pitch.specs.Given.{given, both_given, computed}

-- a number given as a pitch, and back
abbrev pub from_hz : Float → Said Float
from_hz hz = given hz (gives hz)

abbrev pub as_hz : Float → Said Float
as_hz hz = given hz (gives hz)

-- a pitch times a ratio, and over it
abbrev pub pitch_times : Float → Float → Said Float
pitch_times hz r = both_given hz r (computed (mul binary64 hz r))

abbrev pub pitch_over : Float → Float → Said Float
pitch_over hz r = both_given hz r (computed (div binary64 hz r))

-- the ratio from a first pitch to a second
abbrev pub between_pitches : Float → Float → Said Float
between_pitches first second = both_given first second (computed (div binary64 second first))
