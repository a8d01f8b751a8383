-- PITCH VALUES AS PUBLISHED, read by document 01: each is a word, and within the limits it is the item that it says. Assumes nothing.
use Rattle.std.specs.Prelude.{Some, None}
use mathlib.Core.Path.{◌≡◌, refl, sym, subst}
use mathlib.Core.Bool.{Bool, true, false}
use mathlib.Core.List.{List, ◌∷◌, ◌++◌}
use mathlib.Core.Logic.{◌⊎◌, inl, inr}
use Prim.Native.Nat.{ℕ, ◌^◌, ◌≤◌}
use native.Mathlib.Omega.{arith}
use lib.Ieee.{round, binary64}
use lib.ListN.{length, length-append}
use Rattle.decimals.specs.DecimalText.{OptionalSign, Form, FloatText, Unsupported, DecimalText, from_nonzero}
use Rattle.integers.specs.Digits.{AllDigits}
use Rattle.integers.specs.IntegerText.{Digits, IntText}
use Rattle.scl.specs.declared.Item.{Item}
use Rattle.scl.specs.declared.Item.TheVariants.{Cents, Fraction}
use Rattle.scl_read.specs.ItemText.{Contains, Free, Split, ItemText}
use Rattle.scl_write.specs.Published as P
use Rattle.writing.proofs.Plain.{Plain, Word, each_append}
use Rattle.promises.specs.scl.Agree.{Same}
use Rattle.promises.specs.scl.Limits.{ValueWithin}
use Rattle.promises.proofs.kbm.Values.{digits_plain}
use Rattle.promises.proofs.scl.ItemsBack.{free_digits}

-- ---- VALUES ARE WORDS
-- digits, a byte, digits
parted_word : (a b : List ℕ) (c : ℕ) → AllDigits a → AllDigits b → Plain c → Word (a ++ c ∷ b)
parted_word a b c x y p = record {
  some = omega (arith, length-append a (c ∷ b));
  each = each_append Plain a (c ∷ b) (digits_plain a x) (p, digits_plain b y);
}

-- and a byte before them
more_word : (c : ℕ) (t : List ℕ) → Plain c → Word t → Word (c ∷ t)
more_word c t p w = record { some = omega arith; each = (p, w.each) }

pub value_word : {t : List ℕ} {p : P.Pitch} → P.PitchText t p → Word t
value_word {t} (P.PitchText.cents {minus} x) = go x.writes
  where
    w : Word (x.whole ++ 46 ∷ x.part)
    w = parted_word x.whole x.part 46 x.first x.second (omega arith, omega arith)

    go : ((minus ≡ false) × (t ≡ x.whole ++ 46 ∷ x.part)) ⊎ ((minus ≡ true) × (t ≡ 45 ∷ x.whole ++ 46 ∷ x.part)) → Word t
    go (inl e) = subst Word (sym e.1) w
    go (inr e) = subst Word (sym e.1) (more_word 45 (x.whole ++ 46 ∷ x.part) (omega arith, omega arith) w)
value_word (P.PitchText.ratio a b n d e x y p q) = subst Word (sym e) (parted_word a b 47 x.each y.each (omega arith, omega arith))
value_word {t} (P.PitchText.whole n x p) = record { some = x.some; each = digits_plain t x.each }

-- ---- AND ITEMS within the limits
module _ {t : List ℕ} {minus : Bool} {n k : ℕ} (x : P.CentsText t minus n k) where
  abbrev body : List ℕ
  body = x.whole ++ 46 ∷ x.part

  pub cents_dot : Contains 46 t
  cents_dot = go x.writes
    where
      go : ((minus ≡ false) × (t ≡ body)) ⊎ ((minus ≡ true) × (t ≡ 45 ∷ body)) → Contains 46 t
      go (inl e) = (x.whole, x.part, e.1)
      go (inr e) = (45 ∷ x.whole, x.part, e.1)

  -- a decimal without exponent
  pub cents_form : FloatText t (Form.plain minus x.whole x.part)
  cents_form = FloatText.plain (sign x.writes) (record { first = x.first; second = x.second; some = x.some; writes = inl refl })
    where
      sign : ((minus ≡ false) × (t ≡ body)) ⊎ ((minus ≡ true) × (t ≡ 45 ∷ body)) → OptionalSign t minus body
      sign (inl e) = OptionalSign.none e.1 e.0
      sign (inr e) = OptionalSign.minus e.1 e.0

  cents_decimal : length (from_nonzero (x.whole ++ x.part)) ≤ 18 → k ≤ 18 → DecimalText t (round binary64 minus n (10 ^ k))
  cents_decimal a b = record { negative = minus; whole = x.whole; part = x.part; text = cents_form; taken = taken; nearest = rw (x.value, x.places) }
    where
      taken : Unsupported (Form.plain minus x.whole x.part) → ⊥
      taken (Unsupported.long h) = omega arith
      taken (Unsupported.deep h) = omega (arith, x.places)

-- digits, a slash and digits are split there
pub split_at : (t a b : List ℕ) {n d : ℕ} → t ≡ a ++ 47 ∷ b → Digits a n → Digits b d → Split t a b
split_at t a b e x y = record {
  no_dot = subst (Free 46) (sym e) (each_append (λ c. c ≡ 46 → ⊥) a (47 ∷ b) (free_digits 46 a (omega arith) x.each) (λ f. omega (arith, f), free_digits 46 b (omega arith) y.each));
  whole = e;
  first = free_digits 47 a (omega arith) x.each;
}

pub value_item : {t : List ℕ} {p : P.Pitch} (v : P.PitchText t p) → ValueWithin v → (i : Item) × ItemText t i × Same p i
value_item (P.PitchText.cents {minus} {n} {k} x) w =
    let c = round binary64 minus n (10 ^ k) in
    (Cents c, ItemText.cents (cents_dot x) c (cents_decimal x w.0 (omega (arith, w.1))) w.2, refl)
value_item {t} (P.PitchText.ratio a b n d e x y p q) w =
    (Fraction n (Some d), ItemText.fraction a b (split_at t a b e x y) n d (IntText.plain n x w.0 refl) (IntText.plain d y w.1 refl) p q, (refl, refl))
value_item {t} (P.PitchText.whole n x p) w =
    (Fraction n None, ItemText.whole (free_digits 46 t (omega arith) x.each) (free_digits 47 t (omega arith) x.each) n (IntText.plain n x w refl) p, (refl, refl))
