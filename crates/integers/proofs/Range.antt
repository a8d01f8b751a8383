-- THE LAW OF RANGE, and the law of casts, once over width and sign: what is read fits its type, and the code's casts keep its
-- value. Assumes nothing.
use Rattle.std.specs.Prelude.{Some, None, Option}
use mathlib.Core.Path.{◌≡◌, refl, ◌∙◌, ap}
use mathlib.Core.List.{List, [], ◌∷◌}
use mathlib.Core.Bool.{Bool, true, false}
use Prim.Native.Nat.{ℕ, zero, suc, ◌+◌, ◌-◌, ◌*◌, ◌^◌, ◌≤◌, ◌<◌}
use native.Mathlib.Omega.{arith}
use lib.Dec.{leb, eqb}
use lib.IntN.{ℤ, pos, neg_ℤ, ◌-ℤ◌, +ℤ_idl}
use mir.Syntax.{w64}
use mir.Val.{SFits, to_z, of_z}
use mir.Facts.{to_z_pos, to_z-of_z}
use borrow.Author.Tests.{leb-true}
use Rattle.base.specs.Said.{pick}
use Rattle.integers.specs.Integer.{InType, scan, magnitude_of, value, signed_of, read_int, plus, minus, read_signed}
use Rattle.integers.specs.declared.Signed.{Signed}
use Rattle.integers.specs.declared.Signed.TheVariants as signed
use Rattle.integers.specs.Digits.{is_digit}

-- a row of digits that is read is within its limit
within : ℕ → Option ℕ → Type 0
within top (Some n) = n ≤ top
within top None = Unit {0}

scan_within : (top acc : ℕ) (s : List ℕ) → within top (scan top acc s)
unfolding within scan
scan_within top acc [] = go (leb acc top) refl
  where
    go : (t : Bool) → leb acc top ≡ t → within top (pick t (Some acc) None)
    go true e = leb-true acc top e
    go false e = tt
scan_within top acc (b ∷ s) = go (is_digit b) _ (scan_within top (acc * 10 + (b - 48)) s)
  where
    go : (t : Bool) (m : Option ℕ) → within top m → within top (pick t m None)
    go true m h = h
    go false m h = tt

mag_within : (top : ℕ) (s : List ℕ) → within top (magnitude_of top s)
unfolding within magnitude_of
mag_within top [] = tt
mag_within top (b ∷ s) = scan_within top 0 (b ∷ s)

-- the size of what is read is in the range of its type
abbrev pub InRange : Bool → ℕ → Option Signed → Type 0
InRange sign top (Some (signed.Plus n)) = n < top
InRange sign top (Some (signed.Minus n)) = (sign ≡ true) × (n ≤ top)
InRange sign top None = Unit {0}

in_range : (sign : Bool) (top : ℕ) (s : List ℕ) → 0 < top → InRange sign top (read_signed sign top s)
unfolding read_signed within
in_range sign top [] h = tt
in_range sign top (b ∷ s) h = by_minus (eqb b 45)
  where
    plus_in : (m : Option ℕ) → within (top - 1) m → InRange sign top (plus m)
    plus_in (Some n) w = omega arith
    plus_in None w = tt

    minus_in : (m : Option ℕ) → within top m → (t : Bool) → sign ≡ t → InRange sign top (pick t (minus m) None)
    minus_in (Some n) w true e = (e, w)
    minus_in None w true e = tt
    minus_in (Some n) w false e = tt
    minus_in None w false e = tt

    by_plus : (t : Bool) → InRange sign top (pick t (plus (magnitude_of (top - 1) s)) (plus (magnitude_of (top - 1) (b ∷ s))))
    by_plus true = plus_in (magnitude_of (top - 1) s) (mag_within (top - 1) s)
    by_plus false = plus_in (magnitude_of (top - 1) (b ∷ s)) (mag_within (top - 1) (b ∷ s))

    by_minus : (t : Bool) → InRange sign top (pick t (pick sign (minus (magnitude_of top s)) None)
        (pick (eqb b 43) (plus (magnitude_of (top - 1) s)) (plus (magnitude_of (top - 1) (b ∷ s)))))
    by_minus true = minus_in (magnitude_of top s) (mag_within top s) sign refl
    by_minus false = by_plus (eqb b 43)

-- the value of what is read is in the range of its type
pub range : (sign : Bool) (top : ℕ) (s : List ℕ) (z : ℤ) → 0 < top → value z ≡ read_int sign top s → InType sign top z
range sign top s z h e = go (read_signed sign top s) (in_range sign top s h) e
  where
    neg_in : (n : ℕ) → sign ≡ true → n ≤ top → InType sign top (neg_ℤ (pos n))
    neg_in zero g w = h
    neg_in (suc n) g w = (g, w)

    go : (r : Option Signed) → InRange sign top r → value z ≡ signed_of r → InType sign top z
    go (Some (signed.Plus n)) w e' = let p : z ≡ pos n = cc in rw p w
    go (Some (signed.Minus n)) w e' = let p : z ≡ neg_ℤ (pos n) = cc in rw p (neg_in n w.0 w.1)
    go None w e' = let q : ◌≡◌ {A = ℕ} 0 1 = cc in absurd (omega arith)

pub whole_plus : (n : ℕ) → n < 2 ^ 63 → SFits w64 (pos n)
whole_plus n h = record { sfits = h }

pub whole_minus : (n : ℕ) → n < 2 ^ 63 → pos 0 -ℤ to_z w64 n ≡ neg_ℤ (pos n)
whole_minus n h = rw (to_z_pos w64 h) (+ℤ_idl _)

pub neg_fits : (n : ℕ) → n < 2 ^ 63 → SFits w64 (neg_ℤ (pos n))
neg_fits zero h = record { sfits = omega arith }
neg_fits (suc n) h = record { sfits = omega arith }

-- what a call of `read_signed` answered
module _ (sign : Bool) (top : ℕ) (s : List ℕ) {r : Option Signed} (p : r ≡ read_signed sign top s) where
  pub told_range : 0 < top → InRange sign top r
  told_range h = rw p (in_range sign top s h)

  pub told_int : signed_of r ≡ read_int sign top s
  told_int = rw p

  pub told_type : 0 < top → {z : ℤ} → value z ≡ signed_of r → InType sign top z
  told_type h e = range sign top s _ h (e ∙ told_int)

-- what it answered, at the sign and the limit of a type, and what a match told of it
pub told : {g sign : Bool} {t top : ℕ} (s : List ℕ) {f f' : Signed} → Some f ≡ read_signed g t s → g ≡ sign → t ≡ top → f ≡ f' → Some f' ≡ read_signed sign top s
told s p a b q = rw (← a, ← b, ← q) p

-- THE LAW OF READING: what is read is cast and negated within an i64, and is in its type
module _ (sign : Bool) (top : ℕ) (s : List ℕ) (some : 0 < top) (most : top ≤ 2 ^ 32) {n : ℕ} where
  module _ (p : Some (signed.Plus n) ≡ read_signed sign top s) where
    plus_small : n < 2 ^ 63
    plus_small = let w : n < top = told_range sign top s p some in omega arith

    pub plus_fits : SFits w64 (pos n)
    plus_fits = whole_plus n plus_small

    plus_is : {z : ℤ} → z ≡ to_z w64 n → value z ≡ signed_of (Some (signed.Plus n))
    plus_is e = ap value (e ∙ to_z_pos w64 plus_small)

    pub plus_value : {z : ℤ} → z ≡ to_z w64 n → value z ≡ read_int sign top s
    plus_value e = plus_is e ∙ told_int sign top s p

    pub plus_type : {z : ℤ} → z ≡ to_z w64 n → InType sign top z
    plus_type e = told_type sign top s p some (plus_is e)

  module _ (p : Some (signed.Minus n) ≡ read_signed sign top s) where
    minus_small : n < 2 ^ 63
    minus_small = let w : (sign ≡ true) × (n ≤ top) = told_range sign top s p some in omega (arith, w.1)

    pub minus_fits : SFits w64 (pos n)
    minus_fits = whole_plus n minus_small

    pub negated_fits : SFits w64 (pos 0 -ℤ to_z w64 n)
    negated_fits = rw (whole_minus n minus_small) (neg_fits n minus_small)

    minus_is : {z : ℤ} → z ≡ to_z w64 (of_z w64 (pos 0 -ℤ to_z w64 n)) → value z ≡ signed_of (Some (signed.Minus n))
    minus_is e = ap value (e ∙ to_z-of_z negated_fits ∙ whole_minus n minus_small)

    pub minus_value : {z : ℤ} → z ≡ to_z w64 (of_z w64 (pos 0 -ℤ to_z w64 n)) → value z ≡ read_int sign top s
    minus_value e = minus_is e ∙ told_int sign top s p

    pub minus_type : {z : ℤ} → z ≡ to_z w64 (of_z w64 (pos 0 -ℤ to_z w64 n)) → InType sign top z
    minus_type e = told_type sign top s p some (minus_is e)
