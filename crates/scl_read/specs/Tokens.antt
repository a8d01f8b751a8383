-- Document 01, "Scale": what the reader of an item computes. `ItemText` says what an item is, `proofs/ItemLanguage` that the two agree.
-- Assumes nothing.
use Rattle.std.specs.Prelude.{false, List, [], ◌∷◌, ℕ, suc, ◌+◌, ◌^◌, eqb, ltb, nat_abs, length, take, drop, Some, None, Ok, Err, Result, Float}
use Rattle.base.specs.Numbers.{number_of}
use Rattle.base.specs.declared.Reason.{Reason}
use Rattle.base.specs.declared.Reason.TheVariants as reason
use Rattle.base.specs.Said.{Said, gives, refuses, pick}
use Rattle.decimals.specs.DecimalScan.{read_decimal}
use Rattle.decimals.specs.declared.DecimalError.{DecimalError}
use Rattle.decimals.specs.declared.DecimalError.TheVariants as decimal
use Rattle.integers.specs.Integer.{Int, value, none, read_int}
use Rattle.scl.specs.Items.{is_usable}
use Rattle.scl.specs.declared.Item.{Item}
use Rattle.scl.specs.declared.Item.TheVariants.{Cents, Fraction}

-- where a byte first stands; the length where it does not
unfoldable pub position_of : ℕ → List ℕ → ℕ
position_of b [] = 0
position_of b (c ∷ s) = pick (eqb c b) 0 (suc (position_of b s))

-- the item, where it can be used; else 10
abbrev pub usable_item : Item → (Result Item Reason)
usable_item item = pick (is_usable item) (Ok item) (Err reason.Unusable)

abbrev pub cents_in : (Result Float DecimalError) → (Result Item Reason)
cents_in (Ok v) = usable_item (Cents v)
cents_in (Err decimal.Unsupported) = Err reason.UnsupportedNumeral
cents_in (Err decimal.Bad) = Err reason.CentsValue

abbrev pub over_denom : ℕ → Int → (Result Item Reason)
over_denom n (value z) = usable_item (Fraction n (Some (nat_abs z)))
over_denom n none = Err reason.Denom

abbrev pub fraction_in : Int → Int → (Result Item Reason)
fraction_in (value z) d = over_denom (nat_abs z) d
fraction_in none d = Err reason.Numer

abbrev pub whole_in : Int → (Result Item Reason)
whole_in (value z) = usable_item (Fraction (nat_abs z) None)
whole_in none = Err reason.IntValue

-- a token without a dot, with its first slash at k
abbrev pub slashed_in : List ℕ → ℕ → (Result Item Reason)
slashed_in t k =
    pick (ltb k (length t)) (fraction_in (read_int false (2 ^ 32) (take k t)) (read_int false (2 ^ 32) (drop (k + 1) t)))
    (whole_in (read_int false (2 ^ 32) t))

-- THE ITEM that a token is, or its number
unfoldable pub item_in : List ℕ → (Result Item Reason)
item_in t = pick (ltb (position_of 46 t) (length t)) (cents_in (read_decimal t)) (slashed_in t (position_of 47 t))

-- what is said of it at line k
abbrev pub item_said : ℕ → (Result Item Reason) → Said Item
item_said k (Ok item) = gives item
item_said k (Err r) = refuses (number_of r) k
