-- The ranges that document 01 names, both ends in them unless said; "a NaN lies in no range". Assumes nothing.
use Rattle.std.specs.Prelude.{Bool, ◌&&◌, pos, neg_ℤ, from_bits, Float}
use Rattle.std.specs.Float.{binary64}
use Rattle.std.specs.Float.Ieee.{le, lt}
use Rattle.floats.specs.Floats.{two_to}

-- from low to high
abbrev pub within : Float → Float → Float → Bool
within low high x = le low x && le x high

-- "A computed pitch or ratio outside 2^-900..2^900 gives 18"
abbrev pub in_reach : Float → Bool
in_reach = within (two_to (neg_ℤ (pos 900))) (two_to (pos 900))

-- "Searched ratios lie in 2^-64..2^64"
abbrev pub in_search : Float → Bool
in_search = within (two_to (neg_ℤ (pos 64))) (two_to (pos 64))

-- "rank-2 gives 10 if generator or period is outside 2^-32..2^32"
abbrev pub in_generator : Float → Bool
in_generator = within (two_to (neg_ℤ (pos 32))) (two_to (pos 32))

-- "Pitch is usable from 2^-10 to 2^20 Hz"
abbrev pub in_pitch : Float → Bool
in_pitch = within (two_to (neg_ℤ (pos 10))) (two_to (pos 20))

-- "quotient in [0.999999, 1.000001)": Rust's `is_negligible`, the two decimals as their nearest f64
abbrev pub negligible : Float → Bool
negligible x = le (from_bits binary64 0x3fef_fffd_e721_0be9) x && lt x (from_bits binary64 0x3ff0_0001_0c6f_7a0b)
