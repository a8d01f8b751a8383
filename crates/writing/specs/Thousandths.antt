-- What three decimals say of a number when they are read again. Assumes nothing.
use Rattle.std.specs.Prelude.{◌^◌, Float}
use Rattle.std.specs.Float.Ieee.{round}
use Rattle.std.specs.Float.{binary64}
use Rattle.floats.specs.Units.{negative}
use Rattle.printing.specs.PrintText.{scaled_of}

-- the f64 nearest to x with three decimals
abbrev pub nearest_three : Float → Float
nearest_three x = round binary64 (negative x) (scaled_of 3 x) (10 ^ 3)
