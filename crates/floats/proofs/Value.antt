-- A value that fits is known by its fraction, and rounding a fraction that a value has gives the value. Assumes nothing.
use Rattle.std.proofs.Common.{◌≡◌, ℕ, suc, ◌+◌, ◌-◌, ◌*◌, ◌/◌, ◌%◌, ◌^◌, ◌<◌, ◌≤◌, Bool, cond, not, T, leb, ℤ, sym, refl, ap, ◌∙◌, lt_of_lt_of_le, mul_right_comm, arith, pow_mono, shl_lt}
use native.Mathlib.Nat.{eq_of_mul-eq-mul_right}
use lib.Ieee.Exact.{HasValue, round_exact}
use lib.Ieee.{Float, fin, Format, binary64, prec, emax, low, size, up, down, round, fits, to_bits, of_bits, is_nan, hid, top, inf, nan}
use lib.Ieee.Fits.{down_pos, round-fits}
use lib.Ieee.Nearest.{div_same}
use lib.Ieee.Bits.{of_bits-to_bits}
use lib.Ieee.Scale.{finite}
use lib.Ieee.Positive.{num, den}
use Rattle.floats.proofs.Decode.{digits_of, exp_of, located}

-- the bits that a sign and a size in units make
abbrev bits_of : Format → Bool → ℕ → ℕ
bits_of f s n = cond s (top f) 0 + (size n - prec f) * hid f + n / 2 ^ (size n - prec f)

bits_is : (f : Format) (s : Bool) (m : ℕ) (e : ℤ) → to_bits f (fin s m e) ≡ bits_of f s (m * up e * 2 ^ low f / down e)
unfolding to_bits
bits_is f s m e = refl

-- two fractions with one value
cross : (x y c a p q : ℕ) → 0 < c → x * c ≡ a * p → y * c ≡ a * q → x * q ≡ y * p
cross x y c a p q C h k =
    eq_of_mul-eq-mul_right c C (x * q) (y * p) (mul_right_comm x q c ∙ ap (λ (z : ℕ). z * q) h ∙ mul_right_comm a p q ∙ ap (λ (z : ℕ). z * p) (sym k) ∙ mul_right_comm y c p)

-- two floats that fit and have one value are one
pub unique : (f : Format) (x y : Float) (s : Bool) (a c : ℕ) → 0 < c → T (fits f x) → T (fits f y) → HasValue x s a c → HasValue y s a c → x ≡ y
unique f (fin t m e) (fin u n d) s a c C p q v w =
    let l = 2 ^ low f in
    let z : m * up e * l * down d ≡ n * up d * l * down e =
    mul_right_comm (m * up e) l (down d) ∙ ap (λ (z : ℕ). z * l) (cross (m * up e) (n * up d) c a (down e) (down d) C v.1 w.1) ∙ mul_right_comm (n * up d) (down e) l in
    sym (of_bits-to_bits f (fin t m e) p)
    ∙ ap (of_bits f) (bits_is f t m e ∙ ap (λ (r : Bool). bits_of f r (m * up e * l / down e)) (v.0 ∙ sym w.0) ∙ ap (bits_of f u) (div_same (m * up e * l) (down e) (n * up d * l) (down d) (down_pos e) (down_pos d) z) ∙ sym (bits_is f u n d))
    ∙ of_bits-to_bits f (fin u n d) q
unique f nan y s a c C p q v w = elim v [ ]
unique f (inf _) y s a c C p q v w = elim v [ ]
unique f (fin t m e) nan s a c C p q v w = elim w [ ]
unique f (fin t m e) (inf _) s a c C p q v w = elim w [ ]

-- rounding a fraction that a value has, where its digits are known
pub round_back : (f : Format) (x : Float) (s : Bool) (num den q j : ℕ) → 0 < den → T (fits f x) → HasValue x s num den → q < 2 ^ prec f → q * 2 ^ j < 2 ^ (low f + suc (emax f)) → num * 2 ^ low f ≡ q * 2 ^ j * den
    → round f s num den ≡ x
round_back f x s num den q j D p v a b e = unique f (round f s num den) x s num den D (round-fits f s num den) p (round_exact f s num den q j D a b e) v

-- what has a value is a number
pub has_finite : (x : Float) (s : Bool) (a c : ℕ) → HasValue x s a c → T (finite x)
has_finite (fin t m e) s a c v = tt
has_finite nan s a c v = elim v [ ]
has_finite (inf _) s a c v = elim v [ ]

pub has_no_nan : (x : Float) (s : Bool) (a c : ℕ) → HasValue x s a c → T (not (is_nan x))
unfolding is_nan
has_no_nan (fin t m e) s a c v = tt
has_no_nan nan s a c v = elim v [ ]
has_no_nan (inf _) s a c v = elim v [ ]

-- a value by another fraction
pub rescaled : (x : Float) (s : Bool) (a c b d : ℕ) → 0 < c → a * d ≡ b * c → HasValue x s a c → HasValue x s b d
rescaled (fin t m e) s a c b d C h v = (
  v.0,
  eq_of_mul-eq-mul_right c C (m * up e * d) (b * down e)
      (mul_right_comm (m * up e) d c ∙ ap (λ (z : ℕ). z * d) v.1 ∙ mul_right_comm a (down e) d ∙ ap (λ (z : ℕ). z * down e) h ∙ mul_right_comm b c (down e)),
)
rescaled nan s a c b d C h v = elim v [ ]
rescaled (inf _) s a c b d C h v = elim v [ ]

pub same_value : (x : Float) (s t : Bool) (a c b d : ℕ) → HasValue x s a c → HasValue x t b d → (a * d ≡ b * c) × (s ≡ t)
same_value (fin u m e) s t a c b d v w = (
  eq_of_mul-eq-mul_right (down e) (down_pos e) (a * d) (b * c)
      (mul_right_comm a d (down e) ∙ ap (λ (z : ℕ). z * d) (sym v.1) ∙ mul_right_comm (m * up e) c d ∙ ap (λ (z : ℕ). z * c) w.1 ∙ mul_right_comm b (down e) c),
  sym v.0 ∙ w.0,
)
same_value nan s t a c b d v w = elim v [ ]
same_value (inf _) s t a c b d v w = elim v [ ]

-- rounding a fraction that an f64 has gives that f64
pub round_again : (x : Float) (s : Bool) (num den : ℕ) → 0 < den → T (fits binary64 x) → HasValue x s num den → round binary64 s num den ≡ x
round_again x s num den D p v =
    let b = to_bits binary64 x in
    let q = digits_of binary64 (b % 2 ^ 63 / 2 ^ 52) (b % 2 ^ 52) in
    let j = exp_of (b % 2 ^ 63 / 2 ^ 52) in
    let l = located x p (has_finite x s num den v) in
    let h : 53 + j ≤ 2098 = omega (arith, l.under) in
    round_back binary64 x s num den q j D p v l.small (lt_of_lt_of_le (shl_lt 53 j l.small) (pow_mono h))
    (same_value x s (leb (2 ^ 63) b) num den (q * 2 ^ j) (2 ^ 1074) v l.value).0
