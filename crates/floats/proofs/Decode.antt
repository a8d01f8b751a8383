-- An f64's sign, digits and exponent, from its bits. Assumes nothing.
use Rattle.std.proofs.Common.{◌≡◌, ℕ, zero, suc, ◌+◌, ◌*◌, ◌/◌, ◌%◌, ◌^◌, ◌<◌, ◌≤◌, Bool, true, false, cond, T, eqb, leb, sym, refl, ap, ◌∙◌, subst, mod-lt, lt_of_not-le, mul-div_cancel, arith, pow_pos, shr_lt}
use lib.Ieee.Exact.{HasValue, odd_sign}
use lib.Ieee.{Float, nan, inf, fin, Format, binary64, prec, low, odd, down, fits, to_bits, of_bits, of_fields, ones, hid}
use lib.Ieee.Fits.{down_pos, eq→eqb}
use lib.Ieee.Bits.{of_bits-to_bits}
use lib.Ieee.Scale.{finite}
use native.Mathlib.Decide.{dec_le}
use Rattle.floats.specs.Units.{units_of, negative}

-- the digits of a number with the exponent field x and the fraction t: a field above 0 has a leading 1
abbrev pub digits_of : Format → ℕ → ℕ → ℕ
digits_of f zero t = t
digits_of f (suc x) t = hid f + t

-- the exponent in units of 2 ^ -1074 that goes with them
abbrev pub exp_of : ℕ → ℕ
exp_of zero = 0
exp_of (suc x) = x

-- a sign, a field and a fraction, as a number of units
pub fields_value : (f : Format) (s : Bool) (x t : ℕ) → T (finite (of_fields f s x t)) → HasValue (of_fields f s x t) s (digits_of f x t * 2 ^ exp_of x) (2 ^ low f)
unfolding of_fields
fields_value f s zero t h = odd_sign (prec f) s t 0 (low f)
fields_value f s (suc x) t h = go (eqb (suc x) (ones f)) (eqb t 0) h
  where
    go : (b d : Bool) → T (finite (cond b (cond d (inf s) nan) (odd (prec f) s (hid f + t) x (low f)))) → HasValue (cond b (cond d (inf s) nan) (odd (prec f) s (hid f + t) x (low f))) s ((hid f + t) * 2 ^ x) (2 ^ low f)
    go true true h = absurd h
    go true false h = absurd h
    go false d h = odd_sign (prec f) s (hid f + t) x (low f)

-- the last field is no number's
pub field_under : (f : Format) (s : Bool) (x t : ℕ) → T (finite (of_fields f s (suc x) t)) → suc x ≡ ones f → ⊥
unfolding of_fields
field_under f s x t h e = go (eqb (suc x) (ones f)) (eqb t 0) h (eq→eqb e)
  where
    go : (b d : Bool) → T (finite (cond b (cond d (inf s) nan) (odd (prec f) s (hid f + t) x (low f)))) → T b → ⊥
    go true true h k = absurd h
    go true false h k = absurd h
    go false d h k = absurd k

-- the number of units that a value's fraction is
pub units_of_law : (x : Float) (s : Bool) (n : ℕ) → HasValue x s n (2 ^ 1074) → (units_of x ≡ n) × (negative x ≡ s)
unfolding units_of negative
units_of_law (fin t m e) s n v = (ap (λ (z : ℕ). z / down e) v.1 ∙ mul-div_cancel n (down_pos e), v.0)
units_of_law nan s n v = elim v [ ]
units_of_law (inf _) s n v = elim v [ ]

-- an f64's digits and exponent, in units of 2 ^ -1074
pub record Located (x : Float) (s : Bool) (q j : ℕ) : Type 0 where
  pub value : HasValue x s (q * 2 ^ j) (2 ^ 1074)
  pub small : q < 2 ^ 53
  pub normal : 0 < j → 2 ^ 52 ≤ q
  pub under : j ≤ 2045

digits_small : (x t : ℕ) → t < 2 ^ 52 → digits_of binary64 x t < 2 ^ 53
digits_small zero t h = omega arith
digits_small (suc x) t h = omega arith

digits_normal : (x t : ℕ) → 0 < exp_of x → 2 ^ 52 ≤ digits_of binary64 x t
digits_normal zero t h = omega arith
digits_normal (suc x) t h = omega arith

exp_under : (s : Bool) (x t : ℕ) → x < 2 ^ 11 → T (finite (of_fields binary64 s x t)) → exp_of x ≤ 2045
exp_under s zero t b h = omega arith
exp_under s (suc x) t b h = let n = field_under binary64 s x t h in go (dec_le x 2045)
  where
    go : Dec (x ≤ 2045) → x ≤ 2045
    go (yes p) = p
    go (no p) = let q : 2045 < x = lt_of_not-le p in absurd (field_under binary64 s x t h (omega arith))

pub located_fields : (s : Bool) (x t : ℕ) → x < 2 ^ 11 → t < 2 ^ 52 → T (finite (of_fields binary64 s x t)) → Located (of_fields binary64 s x t) s (digits_of binary64 x t) (exp_of x)
located_fields s x t X L h =
    record { value = fields_value binary64 s x t h; small = digits_small x t L; normal = digits_normal x t; under = exp_under s x t X h }

-- the fields of 64 bits
pub of_bits_is : (b : ℕ) → of_bits binary64 b ≡ of_fields binary64 (leb (2 ^ 63) b) (b % 2 ^ 63 / 2 ^ 52) (b % 2 ^ 52)
unfolding of_bits
of_bits_is b = refl

pub located_bits : (b : ℕ) → T (finite (of_bits binary64 b)) → Located (of_bits binary64 b) (leb (2 ^ 63) b) (digits_of binary64 (b % 2 ^ 63 / 2 ^ 52) (b % 2 ^ 52)) (exp_of (b % 2 ^ 63 / 2 ^ 52))
located_bits b h =
    let x = b % 2 ^ 63 / 2 ^ 52 in
    let t = b % 2 ^ 52 in
    let s = leb (2 ^ 63) b in
    subst (λ (z : Float). Located z s (digits_of binary64 x t) (exp_of x)) (sym (of_bits_is b))
    (located_fields s x t (shr_lt 11 52 (mod-lt b (pow_pos 63))) (mod-lt b (pow_pos 52)) (subst (λ (z : Float). T (finite z)) (of_bits_is b) h))

-- an f64 by its own bits
pub located : (x : Float) → T (fits binary64 x) → T (finite x) → (let b = to_bits binary64 x in Located x (leb (2 ^ 63) b) (digits_of binary64 (b % 2 ^ 63 / 2 ^ 52) (b % 2 ^ 52)) (exp_of (b % 2 ^ 63 / 2 ^ 52)))
located x p h =
    let b = to_bits binary64 x in
    let e = of_bits-to_bits binary64 x p in
    subst (λ (z : Float). Located z (leb (2 ^ 63) b) (digits_of binary64 (b % 2 ^ 63 / 2 ^ 52) (b % 2 ^ 52)) (exp_of (b % 2 ^ 63 / 2 ^ 52))) e
    (located_bits b (subst (λ (z : Float). T (finite z)) (sym e) h))

-- the number of units that a field and the digits after it make
abbrev pub decoded : ℕ → ℕ → ℕ
decoded k t = digits_of binary64 k t * 2 ^ exp_of k

-- the same as one value: what `to_bits` gives, decoded
pub value_of : (x : Float) → fits binary64 x ≡ true → T (finite x)
    → HasValue x (leb (2 ^ 63) (to_bits binary64 x)) (decoded (to_bits binary64 x % 2 ^ 63 / 2 ^ 52) (to_bits binary64 x % 2 ^ 52)) (2 ^ 1074)
value_of x f h = (located x (subst T (sym f) tt) h).value
