-- RUST'S f64 TEXT, document 01, "Lines", Decimal: which texts these are, and what each one writes. No reader is named here.
-- Assumes nothing.
use Rattle.std.specs.Prelude.{◌≡◌, List, [], ◌∷◌, ◌++◌, Bool, true, false, ◌⊎◌, ℕ, ◌+◌, ◌<◌, length, eqb}
use Rattle.base.specs.Said.{pick}
use Rattle.integers.specs.Digits.{AllDigits}

-- the digits from the first nonzero digit on
abbrev pub from_nonzero : List ℕ → List ℕ
from_nonzero [] = []
from_nonzero (b ∷ s) = pick (eqb b 48) (from_nonzero s) (b ∷ s)

-- an optional sign, and what follows it
pub data OptionalSign (s : List ℕ) (negative : Bool) (body : List ℕ) : Type 0 where
  none : s ≡ body → negative ≡ false → OptionalSign s negative body
  plus : s ≡ 43 ∷ body → negative ≡ false → OptionalSign s negative body
  minus : s ≡ 45 ∷ body → negative ≡ true → OptionalSign s negative body

-- digits with at most one dot and at least one digit: `whole` before the dot, `part` after it
pub record DottedDigits (s whole part : List ℕ) : Type 0 where
  pub first : AllDigits whole
  pub second : AllDigits part
  pub some : 0 < length whole + length part
  pub writes : (s ≡ whole ++ (46 ∷ part)) ⊎ ((s ≡ whole) × (part ≡ []))

-- `e` or `E`, an optional sign and one or more digits
pub record Exponent (s : List ℕ) : Type 0 where
  pub mark : ℕ
  pub rest : List ℕ
  pub negative : Bool
  pub digits : List ℕ
  pub starts : s ≡ mark ∷ rest
  pub marks : (mark ≡ 101) ⊎ (mark ≡ 69)
  pub signs : OptionalSign rest negative digits
  pub each : AllDigits digits
  pub some : 0 < length digits

-- s is the word w, in any case: each letter small, or 32 below
abbrev pub Spells : List ℕ → List ℕ → Type 0
Spells [] [] = Unit {0}
Spells [] (b ∷ s) = ⊥
Spells (c ∷ w) [] = ⊥
Spells (c ∷ w) (b ∷ s) = ((b ≡ c) ⊎ (b + 32 ≡ c)) × Spells w s

-- `inf`, `infinity`, `nan` in any case
pub data Word (s : List ℕ) : Type 0 where
  inf : Spells (105 ∷ 110 ∷ 102 ∷ []) s → Word s
  infinity : Spells (105 ∷ 110 ∷ 102 ∷ 105 ∷ 110 ∷ 105 ∷ 116 ∷ 121 ∷ []) s → Word s
  nan : Spells (110 ∷ 97 ∷ 110 ∷ []) s → Word s

-- what a text of f64 is: a sign with digits before and after the dot; such with an exponent; a word
pub data Form : Type 0 where
  plain : Bool → List ℕ → List ℕ → Form
  scaled : Form
  word : Form

-- Rust's f64 text
pub data FloatText (s : List ℕ) : Form → Type 0 where
  plain : {negative : Bool} {body whole part : List ℕ} → OptionalSign s negative body → DottedDigits body whole part → FloatText s (Form.plain negative whole part)
  scaled : {negative : Bool} {body m whole part x : List ℕ} → OptionalSign s negative body → body ≡ m ++ x → DottedDigits m whole part → Exponent x → FloatText s Form.scaled
  word : {negative : Bool} {body : List ℕ} → OptionalSign s negative body → Word body → FloatText s Form.word
