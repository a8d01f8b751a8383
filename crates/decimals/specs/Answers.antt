-- Document 01, "Numbers that answer": what the answers of decimals say. Assumes nothing.
use Rattle.std.specs.Prelude.{ℕ, Float, Ok, Err, Result}
use Rattle.base.specs.Said.{Said, gives, refuses}
use Rattle.base.specs.Numbers.{unsupported_numeral}
use Rattle.decimals.specs.declared.DecimalError.{DecimalError}
use Rattle.decimals.specs.declared.DecimalError.TheVariants.{Unsupported, Bad}

-- a value; 9 with the line; or the number that what is read has (4 cents, 7 a pitch) with the line
abbrev pub says_decimal : ℕ → ℕ → (Result Float DecimalError) → Said Float
says_decimal bad line (Ok v) = gives v
says_decimal bad line (Err Unsupported) = refuses unsupported_numeral line
says_decimal bad line (Err Bad) = refuses bad line
