-- What Rust's std does to an f64 and document 01 takes over ("All other float steps are the Rust's own"): from, abs, trunc, floor,
-- and a whole quotient as an i32 ("a wraparound count leaves i32" gives 18). Assumes nothing.
use Rattle.std.specs.Prelude.{ℕ, ◌+◌, ◌-◌, ◌*◌, ◌/◌, true, false, ◌&&◌, ℤ, pos, from_bits, Float}
use Rattle.std.specs.Float.{nan, inf, fin, binary64}
use Rattle.std.specs.Float.Ieee.{up, down, round, lt, le, of_int, to_signed}
use Rattle.base.specs.Numbers.{beyond_reach}
use Rattle.base.specs.Said.{Said, gives, refuses, pick}

-- 2 ^ z
abbrev pub two_to : ℤ → Float
two_to z = fin false 1 z

-- 0.0
abbrev pub zero_f : Float
zero_f = from_bits binary64 0

-- 1.0
abbrev pub one_f : Float
one_f = two_to (pos 0)

-- `f64::from` of a whole number
abbrev pub float : ℕ → Float
float n = of_int binary64 (pos n)

-- the size: the sign cleared
unfoldable pub abs : Float → Float
abs nan = nan
abs (inf s) = inf false
abs (fin s m e) = fin false m e

-- the whole part, its sign kept
unfoldable pub trunc : Float → Float
trunc nan = nan
trunc (inf s) = inf s
trunc (fin s m e) = round binary64 s (m * up e / down e) 1

-- the largest whole number that is not above the value; a zero keeps its sign
unfoldable pub floor : Float → Float
floor nan = nan
floor (inf s) = inf s
floor (fin false m e) = round binary64 false (m * up e / down e) 1
floor (fin true m e) = round binary64 true ((m * up e + (down e - 1)) / down e) 1

-- -2 ^ 31, the least i32
abbrev pub least_i32 : Float
least_i32 = fin true 1 (pos 31)

-- 2 ^ 31, past the largest i32
abbrev pub past_i32 : Float
past_i32 = two_to (pos 31)

-- a whole q as an i32: 18 outside -2 ^ 31..2 ^ 31, the end left out, and for a NaN
abbrev pub count : Float → Said ℤ
count q = pick (le least_i32 q && lt q past_i32) (gives (to_signed 31 q)) (refuses beyond_reach 0)
