-- How a probe says an answer: by one number, and what is stored where something is given. Assumes nothing.
use Rattle.std.specs.Prelude.{Bool, true, false, ◌&&◌, ℕ, ◌-◌, ◌^◌, leb, ℤ, pos, Float, Some, None, Option, Ok, Err, Result}
use Rattle.std.specs.Float.{binary64}
use Rattle.std.specs.Float.Ieee.{of_bits, le}
use Rattle.floats.specs.Floats.{abs}
use Rattle.integers.specs.Integer.{Int, value, none}
use Rattle.decimals.specs.declared.DecimalError.{DecimalError}
use Rattle.decimals.specs.declared.DecimalError.TheVariants.{Unsupported, Bad}
use Rattle.text.specs.declared.line.LineSays.{LineSays}
use Rattle.text.specs.declared.line.LineSays.TheVariants.{NotUtf8, Blank, Comment, Content}

-- an integer, or 2^32, which none of 32 bits is
abbrev pub integer_of : Int → ℤ
integer_of (value z) = z
integer_of none = pos (2 ^ 32)

-- 0 no UTF-8, 1 blank, 2 a comment, 3 content
abbrev pub line_kind : LineSays → ℕ
line_kind NotUtf8 = 0
line_kind Blank = 1
line_kind Comment = 2
line_kind (Content a e t) = 3

-- start, end and token's end of content, or what was there
abbrev pub line_start : LineSays → ℕ → ℕ
line_start NotUtf8 old = old
line_start Blank old = old
line_start Comment old = old
line_start (Content a e t) old = a

abbrev pub line_end : LineSays → ℕ → ℕ
line_end NotUtf8 old = old
line_end Blank old = old
line_end Comment old = old
line_end (Content a e t) old = e

abbrev pub line_token : LineSays → ℕ → ℕ
line_token NotUtf8 old = old
line_token Blank old = old
line_token Comment old = old
line_token (Content a e t) old = t

-- 0 no decimal, 1 unsupported, 2 a decimal
abbrev pub decimal_kind : (Result Float DecimalError) → ℕ
decimal_kind (Err Bad) = 0
decimal_kind (Err Unsupported) = 1
decimal_kind (Ok v) = 2

-- the decimal, or what was there
abbrev pub decimal_value : (Result Float DecimalError) → Float → Float
decimal_value (Err Bad) old = old
decimal_value (Err Unsupported) old = old
decimal_value (Ok v) old = v

-- the next place, or 2^64 - 1, which none is
abbrev pub next_of : (Option ℕ) → ℕ
next_of (Some next) = next
next_of None = 2 ^ 64 - 1

-- |x| is at most 2^53, and there are at most four decimals
abbrev pub printable_to : Float → ℕ → Bool
printable_to x d = le (abs x) (of_bits binary64 0x4340_0000_0000_0000) && leb d 4
