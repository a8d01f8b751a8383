-- L's answer by the sign of V, and what V's distance from zero makes of it. Assumes nothing.
use Rattle.floats.proofs.Order.{Zero, is_zero}
use Rattle.std.proofs.Common.{◌≡◌, ℕ, ◌+◌, ◌-◌, ◌*◌, ◌^◌, ◌<◌, ◌≤◌, Bool, true, false, ◌&&◌, T, ◌⊎◌, pos, negsuc, sym, refl, ◌∙◌, subst, inl, inr, lt_irrefl, eq-zero-or-pos, lt_of_not-le, arith, ltb→lt, lt→ltb, pow_pos, ltb-false}
use native.Mathlib.Decide.{dec_le}
use lib.Ieee.{Float, nan, inf, fin, binary64, up, down, round, neg, le, lt, fits, eq}
use lib.Ieee.Fits.{down_pos, round-fits}
use lib.Ieee.Scale.{finite}
use Rattle.explog.specs.Log.{b_of}
use lib.Ieee.Order.{round_mono}
use lib.Ieee.Bits.{is_true}
use lib.Ieee.Positive.{positive, cross→le}
use Rattle.floats.specs.Floats.{abs}
use Rattle.floats.proofs.Sign.{abs_positive, abs_neg, finite_neg, round_neg}
use Rattle.rounding.proofs.Power.{ratio_positive, ratio_finite}
use Rattle.floats.proofs.Ranges.{Within, within_fin}
use Rattle.explog.specs.Rules.{log_of}
use Rattle.explog.proofs.Plain.{plain_log}
use Rattle.explog.proofs.EndsL.{diff_up, diff_down}
use Rattle.explog.proofs.Values.{Logged, b_under, v_above, v_below, units_from, units_below}

-- ---- L answers the f64 nearest to V / 2 ^ 52: up to 2 ^ 64 above zero, or below it
pub data Sided (d k : ℕ) (r : Float) : Type 0 where
  upward : (n : ℕ) → n < 2 ^ 64 → k * 2 ^ 52 + b_of (d * 2 ^ 10) 52 ≡ 1022 * 2 ^ 52 + n → r ≡ round binary64 false n (2 ^ 52) → Sided d k r
  downward : (n : ℕ) → 0 < n → n < 2 ^ 64 → k * 2 ^ 52 + b_of (d * 2 ^ 10) 52 + n ≡ 1022 * 2 ^ 52 → r ≡ neg (round binary64 false n (2 ^ 52)) → Sided d k r

sided : (d k : ℕ) (r : Float) → b_of (d * 2 ^ 10) 52 < 2 ^ 52 → k ≤ 2045 → r ≡ plain_log d k → Sided d k r
unfolding plain_log
sided d k r b top e = go (dec_le (1022 * 2 ^ 52) (k * 2 ^ 52 + b_of (d * 2 ^ 10) 52))
  where
    go : Dec (1022 * 2 ^ 52 ≤ k * 2 ^ 52 + b_of (d * 2 ^ 10) 52) → Sided d k r
    go (yes l) =
        let a = k * 2 ^ 52 + b_of (d * 2 ^ 10) 52 in
        upward (a - 1022 * 2 ^ 52) (omega arith) (omega arith) (e ∙ sym (diff_up a (1022 * 2 ^ 52) (2 ^ 52) l))
    go (no l) =
        let a = k * 2 ^ 52 + b_of (d * 2 ^ 10) 52 in
        let g = lt_of_not-le l in
        downward (1022 * 2 ^ 52 - a) (omega arith) (omega arith) (omega arith) (e ∙ sym (diff_down a (1022 * 2 ^ 52) (2 ^ 52) g))

pub side_of : (x r : Float) (g : Logged x) → log_of x ≡ r → Sided g.d g.k r
side_of x r g h = sided g.d g.k r (b_under g.d g.k g.low g.high) g.top (sym h ∙ sym g.is)

pub sided_finite : {d k : ℕ} {r : Float} → Sided d k r → T (finite r)
sided_finite (upward n h v e) = rw e (ratio_finite n h)
sided_finite (downward n p h v e) = rw e (finite_neg (round binary64 false n (2 ^ 52)) (ratio_finite n h))

-- ---- zero, of either sign
no_zero : (s : Bool) (y : Float) → T (positive y) → y ≡ fin s 0 (pos 0) → ⊥
no_zero true y p e = subst (λ (z : Float). T (positive z)) e p
no_zero false y p e = subst (λ (z : Float). T (positive z)) e p

no_minus : (s : Bool) (y : Float) → T (positive y) → neg y ≡ fin s 0 (pos 0) → ⊥
unfolding neg
no_minus s nan p e = p
no_minus s (inf t) p e = p
no_minus s (fin true m d) p e = p
no_minus s (fin false m d) p e = let z : m ≡ 0 = cc in lt_irrefl 0 (subst (λ (n : ℕ). 0 < n) z (ltb→lt 0 m p))

sided_zero : {d k : ℕ} {r : Float} → Sided d k r → (s : Bool) → r ≡ fin s 0 (pos 0) → k * 2 ^ 52 + b_of (d * 2 ^ 10) 52 ≡ 1022 * 2 ^ 52
sided_zero {d = d} {k = k} (upward n h v e) s z = go (eq-zero-or-pos n)
  where
    go : (n ≡ 0) ⊎ (0 < n) → k * 2 ^ 52 + b_of (d * 2 ^ 10) 52 ≡ 1022 * 2 ^ 52
    go (inl o) = omega arith
    go (inr p) = absurd (no_zero s (round binary64 false n (2 ^ 52)) (ratio_positive n p h) (sym e ∙ z))
sided_zero (downward n p h v e) s z = absurd (no_minus s (round binary64 false n (2 ^ 52)) (ratio_positive n p h) (sym e ∙ z))

sided_fits : {d k : ℕ} {r : Float} → Sided d k r → fits binary64 r ≡ true
sided_fits (upward n h v e) = rw e (is_true (fits binary64 (round binary64 false n (2 ^ 52))) (round-fits binary64 false n (2 ^ 52)))
sided_fits (downward n p h v e) = rw (e, round_neg binary64 false n (2 ^ 52)) (is_true (fits binary64 (round binary64 true n (2 ^ 52))) (round-fits binary64 true n (2 ^ 52)))

pub sided_equal : {d k : ℕ} {r : Float} → Sided d k r → eq r Zero ≡ true → k * 2 ^ 52 + b_of (d * 2 ^ 10) 52 ≡ 1022 * 2 ^ 52
sided_equal {r = r} g z = let i = is_zero r (sided_fits g) z in sided_zero g i.0 i.1

pub one_fits : T (fits binary64 (fin false 1 (pos 0)))
unfolding fits
one_fits = tt

-- ---- far from zero
abbrev pub Least : Float
Least = fin false 1 (negsuc 19)

least_is : round binary64 false 1 (2 ^ 20) ≡ Least
unfolding round
least_is = refl

-- n / 2 ^ 52 is 2 ^ -20 at least where n is 2 ^ 32 at least
ratio_far : (n : ℕ) → 2 ^ 32 ≤ n → T (le Least (round binary64 false n (2 ^ 52)))
ratio_far n h = subst (λ (y : Float). T (le y (round binary64 false n (2 ^ 52)))) least_is (round_mono binary64 1 (2 ^ 20) n (2 ^ 52) (pow_pos 20) (pow_pos 52) (omega arith))

size_far : (n : ℕ) → 2 ^ 32 ≤ n → n < 2 ^ 64 → T (le Least (abs (round binary64 false n (2 ^ 52))))
size_far n l h = rw (abs_positive (round binary64 false n (2 ^ 52)) (ratio_positive n (omega arith) h)) (ratio_far n l)

-- V is 2 ^ 32 at least, or -2 ^ 32 at most
pub Off : ℕ → ℕ → Type 0
Off d k = (1022 * 2 ^ 52 + 2 ^ 32 ≤ k * 2 ^ 52 + b_of (d * 2 ^ 10) 52) ⊎ (k * 2 ^ 52 + b_of (d * 2 ^ 10) 52 + 2 ^ 32 ≤ 1022 * 2 ^ 52)

pub sided_far : {d k : ℕ} {r : Float} → Sided d k r → Off d k → T (le Least (abs r))
unfolding Off
sided_far (upward n h v e) (inl l) = rw e (size_far n (omega arith) h)
sided_far (upward n h v e) (inr l) = absurd (omega arith)
sided_far (downward n p h v e) (inl l) = absurd (omega arith)
sided_far (downward n p h v e) (inr l) = rw (e, abs_neg (round binary64 false n (2 ^ 52))) (size_far n (omega arith) h)

-- outside [0.999999, 1.000001): on one side or the other
pub and_false : (a b : Bool) → a && b ≡ false → (a ≡ false) ⊎ (b ≡ false)
and_false true b h = inr h
and_false false b h = inl refl

pub side_off : {x : Float} → Within 900 900 x → (g : Logged x) → (le (fin false 9007190247541737 (negsuc 52)) x ≡ false) ⊎ (lt x (fin false 4503604130970123 (negsuc 51)) ≡ false) → Off g.d g.k
unfolding Off lt
side_off (within_fin m e p lo hi) g (inl f) =
    let l : m * up e * 2 ^ 53 < 9007190247541737 * down e =
    lt_of_not-le (λ (q : 9007190247541737 * down e ≤ m * up e * 2 ^ 53).
    subst T f (cross→le (fin false 9007190247541737 (negsuc 52)) (fin false m e) tt (lt→ltb 0 m p) q)) in
    inr (v_below g.d g.k g.low g.high (units_below (m * up e) (down e) (g.d * 2 ^ g.k) 9007190247541737 l g.value.1))
side_off (within_fin m e p lo hi) g (inr f) =
    let l : 4503604130970123 * down e ≤ m * up e * 2 ^ 52 = ltb-false (m * up e * 2 ^ 52) (4503604130970123 * 1 * down e) f in
    inl (v_above g.d g.k g.low g.high (units_from (m * up e) (down e) (g.d * 2 ^ g.k) 4503604130970123 (down_pos e) l g.value.1))
