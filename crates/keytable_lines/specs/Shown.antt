-- What the lines of a table of keys say: which numbers are written with three decimals, and the cents between two pitches. Document 01,
-- "Writing", and the crate `pitch`. Assumes nothing.
use Rattle.std.specs.Prelude.{Bool, Float}
use Rattle.std.specs.Float.{binary64}
use Rattle.std.specs.Float.Ieee.{of_bits, le}
use Rattle.base.specs.Said.{Said, and_then}
use Rattle.floats.specs.Floats.{abs}
use Rattle.pitch.specs.Ratios.{as_cents}
use Rattle.pitch.specs.Pitches.{between_pitches}

-- |x| is at most 2^53
abbrev pub printable : Float → Bool
printable x = le (abs x) (of_bits binary64 0x4340_0000_0000_0000)

-- the cents of the ratio from the first pitch to the second
abbrev pub cents_above : Float → Float → Said Float
cents_above reference sound = and_then (between_pitches reference sound) as_cents
