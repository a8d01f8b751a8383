-- An f64 against zero: below it, above it, equal to it. Assumes nothing.
use Rattle.std.proofs.Common.{◌≡◌, ℕ, zero, suc, ◌+◌, ◌*◌, ◌<◌, Bool, true, false, ◌&&◌, ◌||◌, T, eqb, ℤ, pos, sym, refl, subst, lt_irrefl, zero-lt-suc, mul-pos, zero-mul, arith, lt→ltb, ltb-false, ltb-true, eqb-true}
use mathlib.Core.Bool.{beq}
use lib.Ieee.{Float, nan, inf, fin, binary64, up, down, neg, lt, eq, fits}
use lib.Ieee.Fits.{up_pos, down_pos}
use Rattle.floats.proofs.Fit.{zero_exp}

-- 0.0
abbrev pub Zero : Float
Zero = fin false 0 (pos 0)

-- below zero: the sign is set, and the number is not 0
pub data Negative : Float → Type 0 where
  ninf : Negative (inf true)
  nfin : (m : ℕ) (e : ℤ) → 0 < m → Negative (fin true m e)

-- above zero: the sign is clear, and the number is not 0
pub data Positive : Float → Type 0 where
  pinf : Positive (inf false)
  pfin : (m : ℕ) (e : ℤ) → 0 < m → Positive (fin false m e)

prod_pos : (m : ℕ) (e : ℤ) → 0 < m * up e * 1 → 0 < m
prod_pos zero e h = absurd (lt_irrefl 0 (subst (λ (x : ℕ). 0 < x * 1) (zero-mul (up e)) h))
prod_pos (suc m) e h = omega arith

-- what a test against 0.0 says
pub negative : (x : Float) → lt x Zero ≡ true → Negative x
unfolding lt
negative nan h = absurd (subst T (sym h) tt)
negative (inf true) h = ninf
negative (inf false) h = absurd (subst T (sym h) tt)
negative (fin false m e) h = absurd (lt_irrefl 0 (omega (arith, ltb-true (m * up e * 1) (0 * 1 * down e) h, zero-mul (down e))))
negative (fin true m e) h = nfin m e (prod_pos m e (omega (arith, ltb-true 0 (m * up e * 1 + 0 * 1 * down e) h, zero-mul (down e))))

pub is_positive : (x : Float) → lt Zero x ≡ true → Positive x
unfolding lt
is_positive nan h = absurd (subst T (sym h) tt)
is_positive (inf true) h = absurd (subst T (sym h) tt)
is_positive (inf false) h = pinf
is_positive (fin true m e) h = absurd (subst T (sym h) tt)
is_positive (fin false m e) h = pfin m e (prod_pos m e (omega (arith, ltb-true (0 * 1 * down e) (m * up e * 1) h, zero-mul (down e))))

-- the same below zero
pub neg_positive : {x : Float} → Negative x → Positive (neg x)
unfolding neg
neg_positive ninf = pinf
neg_positive (nfin m e p) = pfin m e p

pub above_minus_one : {x : Float} → Positive x → T (lt (fin true 1 (pos 0)) x)
unfolding lt
above_minus_one pinf = tt
above_minus_one (pfin m e p) = lt→ltb 0 (1 * 1 * down e + m * up e * 1) (omega (arith, down_pos e))

pub zero_number : (m : ℕ) (e : ℤ) → m * up e * 1 ≡ 0 * 1 * down e → m ≡ 0
zero_number zero e h = refl
zero_number (suc m) e h = absurd (lt_irrefl 0 (omega (arith, h, zero-mul (down e), mul-pos (zero-lt-suc m) (up_pos e))))

and_first : (a b : Bool) → a && b ≡ true → a ≡ true
and_first true b h = refl
and_first false b h = h

-- a value that equals zero is one of the two zeros
pub is_zero : (x : Float) → fits binary64 x ≡ true → eq x Zero ≡ true → (s : Bool) × (x ≡ fin s 0 (pos 0))
unfolding eq
is_zero nan f h = absurd (subst T (sym h) tt)
is_zero (inf s) f h = absurd (subst T (sym h) tt)
is_zero (fin s m e) f h =
    let z : m ≡ 0 = zero_number m e (eqb-true (m * up e * 1) (0 * 1 * down e) (and_first (eqb (m * up e * 1) (0 * 1 * down e)) (beq s false || eqb (m * up e * 1) 0) h)) in
    let k : e ≡ pos 0 = zero_exp s e (rw z at f) in
    (s, cc)

-- neither above nor below zero
pub no_size : (s : Bool) (m : ℕ) (e : ℤ) → lt Zero (fin s m e) ≡ false → lt (fin s m e) Zero ≡ false → m ≡ 0
unfolding lt
no_size false m e h g = zero_number m e (omega (arith, ltb-false (0 * 1 * down e) (m * up e * 1) h, zero-mul (down e)))
no_size true m e h g = zero_number m e (omega (arith, ltb-false 0 (m * up e * 1 + 0 * 1 * down e) g, zero-mul (down e)))
