-- A scale's items: document 01, "Scale": "Usable: numerator and denominator at least 1; cents from -38,400 to 38,400", "an
-- integer item is a fraction whose denominator may be lacking"; and their ratio, the Rust's `PitchValue::as_ratio`. Assumes nothing.
use Rattle.std.specs.Prelude.{◌≡◌, Bool, true, ◌&&◌, List, [], ◌∷◌, ℕ, ◌^◌, ◌<◌, ltb, pos, Float, Some, None, Option}
use Rattle.std.specs.Float.{binary64}
use Rattle.std.specs.Float.Ieee.{div, neg, of_int, of_bits}
use Rattle.base.specs.Numbers.{unusable}
use Rattle.base.specs.Said.{Said, gives, refuses, pick}
use Rattle.floats.specs.Ranges.{within, in_generator}
use Rattle.pitch.specs.Given.{computed}
use Rattle.pitch.specs.Ratios.{from_cents}
use Rattle.scl.specs.declared.Item.{Item}
use Rattle.scl.specs.declared.Item.TheVariants.{Cents, Fraction}

-- 38400.0
abbrev pub most_cents : Float
most_cents = of_bits binary64 0x40e2_c000_0000_0000

-- "cents from -38,400 to 38,400"
abbrev pub is_usable_cents : Float → Bool
is_usable_cents = within (neg most_cents) most_cents

-- "at least 1"
abbrev pub is_usable_denom : (Option ℕ) → Bool
is_usable_denom (Some d) = ltb 0 d
is_usable_denom None = true

abbrev pub is_usable : Item → Bool
is_usable (Cents c) = is_usable_cents c
is_usable (Fraction n d) = ltb 0 n && is_usable_denom d

-- `denom.unwrap_or(1)`
abbrev pub denom_of : (Option ℕ) → ℕ
denom_of (Some d) = d
denom_of None = 1

-- `Ratio::from_cents(cents)`, and `f64::from(numer) / f64::from(denom)`
abbrev pub ratio_of : Item → Said Float
ratio_of (Cents c) = from_cents c
ratio_of (Fraction n d) = computed (div binary64 (of_int binary64 (pos n)) (of_int binary64 (pos (denom_of d))))

-- the ratio of an item that is given to a call: 10 where it cannot be used
abbrev pub given_ratio : Item → Said Float
given_ratio i = pick (is_usable i) (ratio_of i) (refuses unusable 0)

-- a ratio is said, and lies in 2^-32..2^32
pub record Reached (s : Said Float) : Type 0 where
  pub value : Float
  pub is : s ≡ gives value
  pub within : in_generator value ≡ true

-- what the machine holds of an item: numbers of 32 bits
abbrev pub Held : Item → Type 0
Held (Cents c) = Unit {0}
Held (Fraction n d) = (n < 2 ^ 32) × (denom_of d < 2 ^ 32)

abbrev pub AllHeld : List Item → Type 0
AllHeld [] = Unit {0}
AllHeld (i ∷ is) = Held i × AllHeld is
