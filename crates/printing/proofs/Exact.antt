-- From a float's exact value to the number that is printed, and how large that is. Assumes nothing.
use mathlib.Core.Path.{◌≡◌, sym, ap, ◌∙◌}
use mathlib.Core.Bool.{Bool, true}
use Prim.Native.Nat.{ℕ, ◌+◌, ◌-◌, ◌*◌, ◌/◌, ◌%◌, ◌^◌, ◌≤◌, ◌<◌, compare}
use native.Mathlib.Nat.{mul_right_comm, mul-one, mul-le-mul_right, le_of_mul-le-mul_right, le_trans, le_of_eq, lt_of_not-le, not-le_of_lt, div-lt_iff_lt-mul, div-one, mod-one}
use native.Mathlib.Omega.{arith}
use lib.Dec.{T, leb→le, lit<}
use lib.Pow.{pow_pos, pow-add, pow-lt}
use lib.Ieee.{Float, nan, inf, fin, binary64, up, down, fits, nearest}
use lib.Ieee.Fits.{down_pos}
use lib.Ieee.Exact.{HasValue}
use lib.Ieee.Nearest.{closest, closest_same, closest_mono}
use lib.Ieee.Scale.{finite}
use Rattle.floats.specs.Units.{units_of, negative, Unpacked}
use Rattle.floats.proofs.Decode.{value_of, units_of_law}
use Rattle.rounding.proofs.Nearest.{near_lt}
use Rattle.printing.specs.PrintText.{limited, scaled_of, parts_text, width_of, text_of}
use Rattle.fixed.specs.Cuts.{cut_at}
use Rattle.fixed.specs.declared.Cut.{Cut}
use Rattle.integers.proofs.Tens.{ten_pos}

pub limited_finite : (x : Float) → T (limited x) → T (finite x)
limited_finite nan h = absurd h
limited_finite (inf s) h = absurd h
limited_finite (fin s m e) h = tt

-- a finite f64 is a whole number of units of 2^-1074
units_exact : (x : Float) → fits binary64 x ≡ true → T (finite x) → HasValue x (negative x) (units_of x) (2 ^ 1074)
units_exact x f h =
    let v = value_of x f h in
    let u = units_of_law x _ _ v in
    rw (u.0, u.1) v

-- the number printed, from the units
pub scaled_units : (x : Float) (d : ℕ) → fits binary64 x ≡ true → T (limited x) → closest (units_of x * 10 ^ d) (2 ^ 1074) ≡ scaled_of d x
scaled_units nan d f h = absurd h
scaled_units (inf s) d f h = absurd h
scaled_units (fin s m e) d f h =
    let u = units_of (fin s m e) in
    let v = (units_exact (fin s m e) f tt).1 in
    closest_same (u * 10 ^ d) (2 ^ 1074) (m * up e * 10 ^ d) (down e) (pow_pos 1074) (down_pos e)
    (mul_right_comm u (10 ^ d) (down e) ∙ ap (λ (x : ℕ). x * 10 ^ d) (sym v) ∙ mul_right_comm (m * up e) (2 ^ 1074) (10 ^ d))

-- at most 2^53, so the exponent is at most 1075
units_le : (x : Float) → fits binary64 x ≡ true → T (limited x) → units_of x ≤ 2 ^ 1127
units_le nan f h = absurd h
units_le (inf s) f h = absurd h
units_le (fin s m e) f h =
    let v = (units_exact (fin s m e) f tt).1 in
    let a : m * up e * 2 ^ 1074 ≤ 2 ^ 53 * down e * 2 ^ 1074 = mul-le-mul_right (2 ^ 1074) (leb→le (m * up e) (2 ^ 53 * down e) h) in
    le_of_mul-le-mul_right (le_trans (le_of_eq (sym v)) (le_trans a (le_of_eq (mul_right_comm (2 ^ 53) (down e) (2 ^ 1074))))) (down_pos e)

pub exponent_le : (x : Float) (s : Bool) (d k : ℕ) → fits binary64 x ≡ true → T (limited x) → Unpacked x s d k → k ≤ 1075
exponent_le x s d k f h u =
    let a : d * 2 ^ k ≤ 2 ^ 1127 = le_trans (le_of_eq (sym u.is)) (units_le x f h) in
    let g : k < 1076 = lt_of_not-le (λ (g : 1076 ≤ k).
    let b : 2 ^ 52 * 2 ^ k ≤ d * 2 ^ k = mul-le-mul_right (2 ^ k) (u.normal (omega arith)) in
    not-le_of_lt (pow-lt {i = 1127} {j = 52 + k} (omega arith)) (le_trans (le_of_eq (pow-add 2 52 k)) (le_trans b a))) in
    omega arith

-- a fraction of at most c gives at most c
closest_one : (c : ℕ) → closest c 1 ≡ c
closest_one c =
    ap (λ (x : ℕ). nearest x (compare (c % 1 * 2) 1)) (div-one c)
    ∙ ap (λ (x : ℕ). nearest c (compare (x * 2) 1)) (mod-one c) ∙ near_lt c (0 * 2) 1 (lit< tt)

closest_le : (a b c : ℕ) → 0 < b → a ≤ c * b → closest a b ≤ c
closest_le a b c h g = le_trans (closest_mono a b c 1 h (lit< tt) (le_trans (le_of_eq (mul-one a)) g)) (le_of_eq (closest_one c))

scaled_le : (x : Float) (d : ℕ) → T (limited x) → scaled_of d x ≤ 2 ^ 53 * 10 ^ d
scaled_le nan d h = absurd h
scaled_le (inf s) d h = absurd h
scaled_le (fin s m e) d h =
    closest_le (m * up e * 10 ^ d) (down e) (2 ^ 53 * 10 ^ d) (down_pos e)
    (le_trans (mul-le-mul_right (10 ^ d) (leb→le (m * up e) (2 ^ 53 * down e) h)) (le_of_eq (mul_right_comm (2 ^ 53) (down e) (10 ^ d))))

whole_small : (n c : ℕ) → 0 < c → n ≤ 2 ^ 53 * c → n / c < 10 ^ 18
whole_small n c h g = let z : n / c < 2 ^ 53 + 1 = (div-lt_iff_lt-mul {y = 2 ^ 53 + 1} h).1 (omega arith) in omega arith

pub scaled_whole : (x : Float) (d : ℕ) → T (limited x) → scaled_of d x / 10 ^ d < 10 ^ 18
scaled_whole x d h = whole_small (scaled_of d x) (10 ^ d) (ten_pos d) (scaled_le x d h)

-- the number that the code cut, in full
module _ (x : Float) (s : Bool) (d g k : ℕ) (f : fits binary64 x ≡ true) (h : T (limited x)) (u : Unpacked x s g k) {r : Cut}
    (e : r ≡ cut_at d (closest (g * 2 ^ k * 10 ^ d) (2 ^ 1074))) where
  pub cut_is : r ≡ cut_at d (scaled_of d x)
  cut_is = e ∙ ap (λ (n : ℕ). cut_at d (closest (n * 10 ^ d) (2 ^ 1074))) (sym u.is) ∙ ap (cut_at d) (scaled_units x d f h)

  pub cut_small : r.whole < 10 ^ 18
  cut_small = rw cut_is (scaled_whole x d h)

  pub cut_text : (plus : Bool) → parts_text s plus r.whole (width_of 18 r.whole) r.part d ≡ text_of d plus x
  cut_text plus = rw (u.sign, cut_is)
