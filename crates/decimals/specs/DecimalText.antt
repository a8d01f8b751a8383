-- THE LANGUAGE OF DECIMALS, document 01, "Lines", Decimal: which of Rust's f64 texts (numerals/specs/FloatText.antt, passed on
-- here) are unsupported (9), and the f64 that each other one gives. No reader is named here. Assumes nothing.
use Rattle.std.specs.Prelude.{◌≡◌, ℕ, ◌^◌, ◌<◌, Bool, List, ◌++◌, length, Float}
use Rattle.std.specs.Float.Ieee.{round}
use Rattle.std.specs.Float.{binary64}
use Rattle.integers.specs.Digits.{decimal}
pub use Rattle.numerals.specs.FloatText.{from_nonzero, OptionalSign, DottedDigits, Exponent, Spells, Word, Form, FloatText}

-- 9 is given exactly for an exponent, a word, over 18 digits from the first nonzero digit on, or over 18 after the dot
pub data Unsupported : Form → Type 0 where
  exponent : Unsupported Form.scaled
  word : Unsupported Form.word
  long : {negative : Bool} {whole part : List ℕ} → 18 < length (from_nonzero (whole ++ part)) → Unsupported (Form.plain negative whole part)
  deep : {negative : Bool} {whole part : List ℕ} → 18 < length part → Unsupported (Form.plain negative whole part)

-- a text that 9 is given for
pub record UnsupportedText (s : List ℕ) : Type 0 where
  pub form : Form
  pub text : FloatText s form
  pub cause : Unsupported form

-- all others give the nearest f64, ties to even, the sign of zero kept
pub record DecimalText (s : List ℕ) (v : Float) : Type 0 where
  pub negative : Bool
  pub whole : List ℕ
  pub part : List ℕ
  pub text : FloatText s (Form.plain negative whole part)
  pub taken : Unsupported (Form.plain negative whole part) → ⊥
  pub nearest : v ≡ round binary64 negative (decimal (whole ++ part)) (10 ^ length part)
