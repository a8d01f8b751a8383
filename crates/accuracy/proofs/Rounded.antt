-- A fraction in the normal range and the f64 nearest to it: they are one part in 2 ^ 53 apart at most, of either. Assumes nothing.
use mathlib.Core.Path.{◌≡◌, refl, sym, ap, ◌∙◌, subst}
use mathlib.Core.Bool.{Bool, not}
use Prim.Native.Nat.{ℕ, ◌+◌, ◌-◌, ◌*◌, ◌/◌, ◌%◌, ◌^◌, ◌≤◌, ◌<◌, compare, Ordering}
use native.Mathlib.Nat.{le_trans, le_of_eq, mul-le-mul_right, le_of_mul-le-mul_right, mul_comm, mul_assoc, mul_right_comm, mul-pos}
use native.Mathlib.Nat.{div-add-mod', mod-lt, le-div_iff_mul-le}
use native.Mathlib.Omega.{arith}
use lib.Dec.{T, is_le, compare_is_eq, leb→le, nleb→lt, eqb→eq}
use lib.Pow.{pow-add, pow_pos}
use lib.Ieee.{Float, binary64, nearest, round, size}
use lib.Ieee.Digits.{size_reaches}
use lib.Ieee.Exact.{HasValue, units_val}
use lib.Ieee.Fits.{round_is}
use lib.Ieee.Nearest.{closest, nearest-ge}
use lib.Ieee.Order.{drop, kept}
use lib.Ieee.Scale.{grid, normal_of_fraction}
use Rattle.floats.proofs.Value.{same_value}
use Rattle.rounding.proofs.Scale.{not_over}

-- ---- to the nearest whole number: t * b is half of b away from a at most
abbrev Half : ℕ → ℕ → ℕ → Type 0
Half t a b = (2 * (t * b) ≤ 2 * a + b) × (2 * a ≤ 2 * (t * b) + b)

nearest_half : (q r b a : ℕ) (o : Ordering) → q * b + r ≡ a → r < b
    → (T (is_le o) → r * 2 ≤ b) → (T (not (is_le o)) → b < r * 2) → (T (compare_is_eq o) → r * 2 ≡ b) → Half (nearest q o) a b
nearest_half q r b a Ordering.lt e l f g h = let k = f tt in omega arith
nearest_half q r b a Ordering.eq e l f g h = let k = h tt in let w : q % 2 ≤ 1 = omega arith in omega (arith, mul-le-mul_right b w)
nearest_half q r b a Ordering.gt e l f g h = let k = g tt in omega arith

closest_half : (a b : ℕ) → 0 < b → Half (closest a b) a b
closest_half a b p =
    let r = a % b in
    nearest_half (a / b) r b a (compare (r * 2) b) (div-add-mod' a b) (mod-lt a p)
    (leb→le (r * 2) b) (nleb→lt (r * 2) b) (eqb→eq (r * 2) b)

-- ---- G is n, rounded: above it or below it by one part in 2 ^ 53 at most, of n and of G
pub record Rounded (n G : ℕ) : Type 0 where
  pub over_n : 2 ^ 53 * G ≤ 2 ^ 53 * n + n
  pub over_g : 2 ^ 53 * G ≤ 2 ^ 53 * n + G
  pub under_n : 2 ^ 53 * n ≤ 2 ^ 53 * G + n
  pub under_g : 2 ^ 53 * n ≤ 2 ^ 53 * G + G

-- t steps of u, with 53 digits in t
of_half : (n u t G : ℕ) → G ≡ t * u → Half t n u → 2 ^ 52 * u ≤ n → 2 ^ 52 ≤ t → Rounded n G
of_half n u t G e h a b = let c : 2 ^ 52 * u ≤ t * u = mul-le-mul_right u b in
    record { over_n = omega arith; over_g = omega arith; under_n = omega arith; under_g = omega arith }

-- both times k / l
in_parts : (n G m K k l : ℕ) → 0 < l → n * k ≡ m * l → G * k ≡ K * l → Rounded n G → Rounded m K
in_parts n G m K k l some e f h = record {
  over_n = le_of_mul-le-mul_right {k = l} (omega (arith, mul-le-mul_right k h.over_n)) some;
  over_g = le_of_mul-le-mul_right {k = l} (omega (arith, mul-le-mul_right k h.over_g)) some;
  under_n = le_of_mul-le-mul_right {k = l} (omega (arith, mul-le-mul_right k h.under_n)) some;
  under_g = le_of_mul-le-mul_right {k = l} (omega (arith, mul-le-mul_right k h.under_g)) some;
}

-- ---- a / c, rounded
module _ (a c : ℕ) (some : 0 < c) (normal : 2 ^ 52 * c ≤ a * 2 ^ 1074) where
  on_grid : (n k : ℕ) → n ≡ a * 2 ^ 1074 → k ≡ size (n / c) - 53 → 53 ≤ size (n / c)
      → Rounded n (closest n (c * 2 ^ k) * 2 ^ k * c)
  on_grid n k en ek N =
      let u = c * 2 ^ k in
      let U : 0 < u = mul-pos some (pow_pos k) in
      let s : 52 + k < size (n / c) = omega arith in
      let r : 2 ^ (52 + k) * c ≤ n = (le-div_iff_mul-le some).0 (size_reaches (n / c) (52 + k) s) in
      let z : 2 ^ 52 * u ≡ 2 ^ (52 + k) * c =
      ap (λ (z : ℕ). 2 ^ 52 * z) (mul_comm c (2 ^ k))
      ∙ sym (mul_assoc (2 ^ 52) (2 ^ k) c) ∙ ap (λ (z : ℕ). z * c) (sym (pow-add 2 52 k)) in
      let l : 2 ^ 52 * u ≤ n = le_trans (le_of_eq z) r in
      of_half n u (closest n u) (closest n u * 2 ^ k * c)
      (mul_assoc (closest n u) (2 ^ k) c ∙ ap (λ (z : ℕ). closest n u * z) (mul_comm (2 ^ k) c)) (closest_half n u U) l
      (le_trans ((le-div_iff_mul-le U).1 l) (nearest-ge (n / u) (compare (n % u * 2) u)))

  module _ (under : a * 2 ^ 1074 < 2 ^ 2097 * c) (s : Bool) where
    pub round_value : HasValue (round binary64 s a c) s (grid binary64 a c) (2 ^ 1074)
    round_value =
        subst (λ (z : Float). HasValue z s (grid binary64 a c) (2 ^ 1074)) (sym (round_is binary64 s a c))
        (units_val binary64 s (kept 53 (a * 2 ^ 1074) c) (drop 53 (a * 2 ^ 1074) c) (not_over a c some normal under))

    -- the value g / h of the rounded fraction, with its sign
    pub rounded : (t : Bool) (g h : ℕ) → HasValue (round binary64 s a c) t g h → Rounded (a * h) (g * c) × (s ≡ t)
    rounded t g h v =
        let G = grid binary64 a c in
        let e = same_value (round binary64 s a c) s t G (2 ^ 1074) g h round_value v in (
          in_parts (a * 2 ^ 1074) (G * c) (a * h) (g * c) h (2 ^ 1074) (pow_pos 1074) (mul_right_comm a (2 ^ 1074) h)
              (mul_right_comm G c h ∙ ap (λ (z : ℕ). z * c) e.0 ∙ mul_right_comm g (2 ^ 1074) c)
              (on_grid (a * 2 ^ 1074) (drop 53 (a * 2 ^ 1074) c) refl refl (normal_of_fraction binary64 a c some normal)),
          e.1,
        )
