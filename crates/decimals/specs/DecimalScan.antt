-- What the code of decimals in computes from a scan: document 01, "Lines", Decimal. Which texts these are is said
-- without a reader in DecimalText. Assumes nothing.
use Rattle.std.specs.Prelude.{ℕ, ◌^◌, Bool, false, List, nat_le, Float, None, Some, Option, Ok, Err, Result}
use Rattle.std.specs.Float.Ieee.{round}
use Rattle.std.specs.Float.{binary64}
use Rattle.base.specs.Said.{pick}
use Rattle.numerals.specs.Scan.{scan_of}
use Rattle.numerals.specs.declared.Numeral.{Numeral}
use Rattle.decimals.specs.declared.DecimalError.{DecimalError}
use Rattle.decimals.specs.declared.DecimalError.TheVariants as answer

-- whether a numeral is taken: no exponent and no word, at most 18 digits from the first nonzero one on, at most 18 after the dot
abbrev pub supported : Numeral → Bool
supported x = pick x.plain (pick (nat_le x.significant 18) (nat_le x.places 18) false) false

-- the f64 nearest to what a numeral writes
abbrev pub valued : Numeral → Float
valued x = round binary64 x.negative x.n (10 ^ x.places)

-- the answer for what was scanned
abbrev pub judged : (Option Numeral) → (Result Float DecimalError)
judged (Some x) = pick (supported x) (Ok (valued x)) (Err answer.Unsupported)
judged None = (Err answer.Bad)

-- the answer for a text
unfoldable pub read_decimal : List ℕ → (Result Float DecimalError)
read_decimal s = judged (scan_of s)
