-- Document 01, "Lines", integers: what the readers compute, once over width and sign (the numbers below top and, if signed,
-- down to -top). `IntegerText` says what an integer is, `proofs/Language` that the two agree. Assumes nothing.
use Rattle.std.specs.Prelude.{◌≡◌, ◌<◌, true, negsuc, List, [], ◌∷◌, Bool, ℕ, ◌+◌, ◌-◌, ◌*◌, leb, eqb, ℤ, pos, neg_ℤ, Some, None, Option}
use Rattle.base.specs.Said.{pick}
use Rattle.integers.specs.Digits.{is_digit}
use Rattle.integers.specs.declared.Signed.{Signed}
use Rattle.integers.specs.declared.Signed.TheVariants as signed

-- what a text is: an integer of the type with its value, or none
pub data Int : Type 0 where
  value : ℤ → Int
  none : Int

-- the digits s after the number acc, if the result stays within top
unfoldable pub scan : ℕ → ℕ → List ℕ → (Option ℕ)
scan top acc [] = pick (leb acc top) (Some acc) None
scan top acc (b ∷ s) = pick (is_digit b) (scan top (acc * 10 + (b - 48)) s) None

-- one or more digits, at most top
unfoldable pub magnitude_of : ℕ → List ℕ → (Option ℕ)
magnitude_of top [] = None
magnitude_of top (b ∷ s) = scan top 0 (b ∷ s)

-- a row of digits with nothing or `+` before it
abbrev pub plus : Option ℕ → (Option Signed)
plus (Some n) = Some (signed.Plus n)
plus None = None

-- a row of digits with `-` before it
abbrev pub minus : Option ℕ → (Option Signed)
minus (Some n) = Some (signed.Minus n)
minus None = None

-- the sign and the size of an integer of a type that holds the numbers below top and, if it has a sign, those down to -top
unfoldable pub read_signed : Bool → ℕ → List ℕ → (Option Signed)
read_signed sign top [] = None
read_signed sign top (b ∷ s) =
    pick (eqb b 45) (pick sign (minus (magnitude_of top s)) None)
    (pick (eqb b 43) (plus (magnitude_of (top - 1) s)) (plus (magnitude_of (top - 1) (b ∷ s))))

-- the integer of a sign and a size
abbrev pub signed_of : (Option Signed) → Int
signed_of (Some (signed.Plus n)) = value (pos n)
signed_of (Some (signed.Minus n)) = value (neg_ℤ (pos n))
signed_of None = none

-- what the text s is, of such a type
abbrev pub read_int : Bool → ℕ → List ℕ → Int
read_int sign top s = signed_of (read_signed sign top s)

-- the numbers of a type: below top and, if signed, down to -top
abbrev pub InType : Bool → ℕ → ℤ → Type 0
InType sign top (pos n) = n < top
InType sign top (negsuc n) = (sign ≡ true) × (n < top)

-- the integer of what a reader answers, by the number of a value
abbrev pub int_by : {A : Type 0} → (A → ℤ) → Option A → Int
int_by number (Some a) = value (number a)
int_by number None = none
