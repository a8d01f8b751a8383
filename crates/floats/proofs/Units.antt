-- Every finite f64 is a whole number of units, and its parts are determined. Assumes nothing.
use Rattle.std.proofs.Common.{◌≡◌, ℕ, ◌+◌, ◌-◌, ◌*◌, ◌^◌, ◌<◌, ◌≤◌, Bool, T, sym, ap, ◌∙◌, subst, le_trans, le_of_eq, mul-le-mul_right, mul_assoc, mul_comm, le_antisymm, lt_of_not-le, le-div_iff_mul-le, mul-one, not-le_of_lt, arith, pow_pos, pow_mono, pow-add, shl_lt}
use native.Mathlib.Nat.{eq_of_mul-eq-mul_right}
use native.Mathlib.Decide.{dec_le}
use lib.Ieee.{Float, binary64, fits, up, down}
use lib.Ieee.Exact.{HasValue}
use lib.Ieee.Fits.{down_pos}
use lib.Ieee.Scale.{finite}
use Rattle.floats.specs.Units.{Unpacked, units_of, negative}
use Rattle.floats.proofs.Decode.{Located, located, units_of_law}
use Rattle.floats.proofs.Ranges.{Within, within_fin}

of_located : (x : Float) (s : Bool) (q j : ℕ) → Located x s q j → HasValue x (negative x) (units_of x) (2 ^ 1074)
of_located x s q j l =
    let u = units_of_law x s (q * 2 ^ j) l.value in
    subst (λ (n : ℕ). HasValue x (negative x) n (2 ^ 1074)) (sym u.0) (subst (λ (t : Bool). HasValue x t (q * 2 ^ j) (2 ^ 1074)) (sym u.1) l.value)

pub whole_units : (x : Float) → T (fits binary64 x) → T (finite x) → HasValue x (negative x) (units_of x) (2 ^ 1074)
whole_units x p h = of_located x _ _ _ (located x p h)

-- an f64 by its parts
pub unpacked_value : (x : Float) (s : Bool) (d k : ℕ) → T (fits binary64 x) → T (finite x) → Unpacked x s d k → HasValue x s (d * 2 ^ k) (2 ^ 1074)
unpacked_value x s d k p h u =
    subst (λ (n : ℕ). HasValue x s n (2 ^ 1074)) u.is (subst (λ (t : Bool). HasValue x t (units_of x) (2 ^ 1074)) (sym u.sign) (whole_units x p h))

-- ---- the parts are determined: of two the one with the smaller exponent would have too many digits
no_less : {x : Float} {s t : Bool} {d k e j : ℕ} → Unpacked x s d k → Unpacked x t e j → k < j → ⊥
no_less {k = k} {e = e} {j = j} u v l =
    let h : 53 + k ≤ 52 + j = omega arith in
    let p : 0 < j = omega arith in
    not-le_of_lt (shl_lt 53 k u.small) (le_trans (pow_mono h) (le_trans (le_of_eq (pow-add 2 52 j)) (le_trans (mul-le-mul_right (2 ^ j) (v.normal p)) (le_of_eq (sym v.is ∙ u.is)))))

reaches : (k j : ℕ) → (k < j → ⊥) → j ≤ k
reaches k j n = go (dec_le j k)
  where
    go : Dec (j ≤ k) → j ≤ k
    go (yes p) = p
    go (no p) = absurd (n (lt_of_not-le p))

pub same_exponent : {x : Float} {s t : Bool} {d k e j : ℕ} → Unpacked x s d k → Unpacked x t e j → k ≡ j
same_exponent {k = k} {j = j} u v = le_antisymm (reaches j k (no_less v u)) (reaches k j (no_less u v))

pub same_digits : {x : Float} {s t : Bool} {d k e j : ℕ} → Unpacked x s d k → Unpacked x t e j → k ≡ j → d ≡ e
same_digits {d = d} {k = k} {e = e} u v q = eq_of_mul-eq-mul_right (2 ^ k) (pow_pos k) d e (sym u.is ∙ v.is ∙ ap (λ (z : ℕ). e * 2 ^ z) (sym q))

-- ---- a number between two powers of two
pub within_units : (a : ℕ) {b : ℕ} {x : Float} → a ≤ 1074 → Within a b x → 2 ^ (1074 - a) ≤ units_of x
unfolding units_of
within_units a small (within_fin m e p l h) =
    let whole : 2 ^ a * 2 ^ (1074 - a) ≡ 2 ^ 1074 =
    sym (pow-add 2 a (1074 - a)) ∙ ap (λ (z : ℕ). 2 ^ z) (let s : a + (1074 - a) ≡ 1074 = omega arith in s) in
    (le-div_iff_mul-le (down_pos e)).1
    (le_trans (le_of_eq (mul_comm (2 ^ (1074 - a)) (down e)))
    (le_trans (mul-le-mul_right (2 ^ (1074 - a)) l)
    (le_of_eq (mul_assoc (m * up e) (2 ^ a) (2 ^ (1074 - a)) ∙ ap (λ (z : ℕ). m * up e * z) whole))))

-- so many units are no subnormal's
pub not_subnormal : (d k u : ℕ) → u ≡ d * 2 ^ k → d < 2 ^ 53 → 2 ^ 53 ≤ u → 0 < k
not_subnormal d k u is small least = lt_of_not-le (λ (h : k ≤ 0). none (omega arith))
  where
    none : k ≡ 0 → ⊥
    none z = not-le_of_lt small (le_trans least (le_of_eq (is ∙ ap (λ (j : ℕ). d * 2 ^ j) z ∙ mul-one d)))

-- and have all 53 digits
pub full_digits : {x : Float} {s : Bool} {d k : ℕ} → Unpacked x s d k → 2 ^ 53 ≤ units_of x → 2 ^ 52 ≤ d
full_digits u least = u.normal (not_subnormal _ _ _ u.is u.small least)
