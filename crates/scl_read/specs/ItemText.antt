-- THE LANGUAGE OF ITEMS, document 01, "Scale": "A token with a dot is cents (4). Else with a slash it is split at the first: numerator
-- (5), denominator (6). Else an integer (3). All three integers are u32; an integer item is a fraction whose denominator may be
-- lacking. Usable: numerator and denominator at least 1; cents from -38,400 to 38,400." No reader is named here. Assumes nothing.
use Rattle.std.specs.Prelude.{◌≡◌, true, false, List, ◌∷◌, ◌++◌, ◌⊎◌, ℕ, ◌^◌, ◌<◌, Float, pos, Some, None}
use Rattle.base.specs.Numbers.{int_value, cents_value, numer_value, denom_value, unsupported_numeral, unusable}
use Rattle.decimals.specs.DecimalText.{Form, FloatText, UnsupportedText, DecimalText}
use Rattle.integers.specs.IntegerText.{IntText, NoInteger}
use Rattle.scl.specs.Items.{is_usable_cents}
use Rattle.scl.specs.declared.Item.{Item}
use Rattle.scl.specs.declared.Item.TheVariants.{Cents, Fraction}
use Rattle.utf8.specs.Characters.{Each}

-- a byte stands in t, or does not
abbrev pub Contains : ℕ → List ℕ → Type 0
Contains b t = (u v : List ℕ) × (t ≡ u ++ b ∷ v)

abbrev pub Free : ℕ → List ℕ → Type 0
Free b t = Each (λ c. c ≡ b → ⊥) t

-- a u32
abbrev pub U32Text : List ℕ → ℕ → Type 0
U32Text t n = IntText false (2 ^ 32) t (pos n)

-- no dot (46) stands in t, and it is split at its first slash (47)
pub record Split (t numer denom : List ℕ) : Type 0 where
  pub no_dot : Free 46 t
  pub whole : t ≡ numer ++ 47 ∷ denom
  pub first : Free 47 numer

-- THE ITEM that the token t is
pub data ItemText (t : List ℕ) : Item → Type 0 where
  cents : Contains 46 t → (v : Float) → DecimalText t v → is_usable_cents v ≡ true → ItemText t (Cents v)
  fraction : (a b : List ℕ) → Split t a b → (n d : ℕ) → U32Text a n → U32Text b d → 0 < n → 0 < d → ItemText t (Fraction n (Some d))
  whole : Free 46 t → Free 47 t → (n : ℕ) → U32Text t n → 0 < n → ItemText t (Fraction n None)

-- n is the first number of 01's order that the token t draws where it is none: syntax (4, 5, 6, 3), 9, 10
pub data NoItem (t : List ℕ) (n : ℕ) : Type 0 where
  no_cents : Contains 46 t → n ≡ cents_value → ((f : Form) → FloatText t f → ⊥) → NoItem t n
  unsupported : Contains 46 t → n ≡ unsupported_numeral → UnsupportedText t → NoItem t n
  far : Contains 46 t → n ≡ unusable → (v : Float) → DecimalText t v → is_usable_cents v ≡ false → NoItem t n
  no_numer : (a b : List ℕ) → Split t a b → NoInteger numer_value false (2 ^ 32) a n → NoItem t n
  no_denom : (a b : List ℕ) → Split t a b → (p : ℕ) → U32Text a p → NoInteger denom_value false (2 ^ 32) b n → NoItem t n
  zero_part : (a b : List ℕ) → Split t a b → (p q : ℕ) → U32Text a p → U32Text b q → (p ≡ 0) ⊎ (q ≡ 0) → n ≡ unusable → NoItem t n
  no_whole : Free 46 t → Free 47 t → NoInteger int_value false (2 ^ 32) t n → NoItem t n
  zero : Free 46 t → Free 47 t → U32Text t 0 → n ≡ unusable → NoItem t n
