-- Whole parts: below 2 ^ 64 the machine's, from there on the number itself. Assumes nothing.
use Rattle.std.proofs.Common.{◌≡◌, ℕ, suc, ◌-◌, ◌*◌, ◌/◌, ◌^◌, ◌<◌, ◌≤◌, min, Bool, true, false, T, ℤ, pos, negsuc, sym, refl, ap, ◌∙◌, subst, div-lt_iff_lt-mul, div-le_self, div-one, arith, pow_pos, ltb-false, ltb-true}
use lib.Ieee.Exact.{HasValue}
use lib.Ieee.Back.{round_whole}
use lib.Ieee.{Float, nan, inf, fin, binary64, up, down, round, neg, lt, fits, to_unsigned, of_int}
use lib.Ieee.Fits.{down_pos}
use Rattle.floats.specs.Floats.{trunc}
use Rattle.floats.proofs.Order.{Zero, Negative, ninf, nfin, Positive, pinf, pfin, no_size}
use Rattle.floats.proofs.Fit.{fits_says, whole_round, zero_exp}
use Rattle.floats.proofs.Sign.{round_neg}

-- 2 ^ 64, where the machine's conversion ends
abbrev pub Past64 : Float
Past64 = fin false 1 (pos 64)

-- 2 ^ 64 as the code has it negative
abbrev pub Past_64 : Float
Past_64 = fin true 1 (pos 64)

pub uncapped : (a c : ℕ) → a < c → min a (c - 1) ≡ a
uncapped a c h = omega arith

-- below 2 ^ 64 the whole part is below 2 ^ 64
pub cut_lt : (m : ℕ) (e : ℤ) → m * up e * 1 < 1 * 2 ^ 64 * down e → m * up e / down e < 2 ^ 64
cut_lt m e h = (div-lt_iff_lt-mul (down_pos e)).1 (omega (arith, h))

-- above zero and below 2 ^ 64: the machine's conversion
pub trunc_under : {x : Float} → Positive x → lt x Past64 ≡ true → of_int binary64 (pos (to_unsigned 64 x)) ≡ trunc x
unfolding lt of_int to_unsigned trunc
trunc_under pinf h = absurd (subst T (sym h) tt)
trunc_under (pfin m e p) h = ap (λ (n : ℕ). round binary64 false n 1) (uncapped (m * up e / down e) (2 ^ 64) (cut_lt m e (ltb-true (m * up e * 1) (1 * 2 ^ 64 * down e) h)))

-- from 2 ^ 53 on, a value that fits is whole
pub no_fraction : (m k : ℕ) → m < 2 ^ 53 → 2 ^ 53 * 2 ^ suc k ≤ m → ⊥
no_fraction m k h g = omega (arith, pow_pos (suc k))

-- from 2 ^ 64 on: the number itself
pub trunc_large : (s : Bool) (m : ℕ) (e : ℤ) → 0 < m → fits binary64 (fin s m e) ≡ true → 2 ^ 64 * down e ≤ m * up e → fin s m e ≡ trunc (fin s m e)
unfolding trunc
trunc_large s m (pos k) p f h = sym (ap (λ (n : ℕ). round binary64 s n 1) (div-one (m * 2 ^ k)) ∙ whole_round s m k p f)
trunc_large s m (negsuc k) p f h = absurd (no_fraction m k (fits_says s m (negsuc k) p f).1 (omega (arith, h)))

pub trunc_over : {x : Float} → Positive x → fits binary64 x ≡ true → lt x Past64 ≡ false → x ≡ trunc x
unfolding lt trunc
trunc_over pinf f h = refl
trunc_over (pfin m e p) f h = trunc_large false m e p f (omega (arith, ltb-false (m * up e * 1) (1 * 2 ^ 64 * down e) h))

-- below zero: the same of the number negated
pub neg_top : {x : Float} → Negative x → lt Past_64 x ≡ true → lt (neg x) Past64 ≡ true
unfolding lt neg
neg_top ninf h = h
neg_top (nfin m e p) h = h

pub neg_trunc : {x : Float} → Negative x → neg (trunc (neg x)) ≡ trunc x
unfolding neg trunc
neg_trunc ninf = refl
neg_trunc (nfin m e p) = round_neg binary64 false (m * up e / down e) 1

pub trunc_below : {x : Float} → Negative x → fits binary64 x ≡ true → lt Past_64 x ≡ false → x ≡ trunc x
unfolding lt trunc
trunc_below ninf f h = refl
trunc_below (nfin m e p) f h = trunc_large true m e p f (omega (arith, ltb-false (m * up e * 1) (1 * 2 ^ 64 * down e) h))

-- zeros, and what is no number
trunc_zero : (s : Bool) (m : ℕ) (e : ℤ) → fits binary64 (fin s m e) ≡ true → m ≡ 0 → fin s m e ≡ trunc (fin s m e)
unfolding trunc round
trunc_zero s m e f z =
    let k : e ≡ pos 0 = zero_exp s e (rw z at f) in
    rw (z, k)

pub trunc_rest : (x : Float) → fits binary64 x ≡ true → lt Zero x ≡ false → lt x Zero ≡ false → x ≡ trunc x
unfolding lt trunc
trunc_rest nan f h g = refl
trunc_rest (inf s) f h g = refl
trunc_rest (fin s m e) f h g = trunc_zero s m e f (no_size s m e h g)

cut_small : (m k : ℕ) → m < 2 ^ 53 → m * 1 / 2 ^ suc k ≤ 2 ^ 53
cut_small m k h = omega (arith, div-le_self (m * 1) (2 ^ suc k))

-- what trunc is: the value of the result, with no rounding
pub trunc_exact : (s : Bool) (m : ℕ) (e : ℤ) → 0 < m → fits binary64 (fin s m e) ≡ true → HasValue (trunc (fin s m e)) s (m * up e / down e) 1
unfolding trunc
trunc_exact s m (pos k) p f =
    let is : round binary64 s (m * 2 ^ k / 1) 1 ≡ fin s m (pos k) = ap (λ (n : ℕ). round binary64 s n 1) (div-one (m * 2 ^ k)) ∙ whole_round s m k p f in
    subst (λ (y : Float). HasValue y s (m * 2 ^ k / 1) 1) (sym is) (refl, ap (λ (n : ℕ). n * 1) (sym (div-one (m * 2 ^ k))))
trunc_exact s m (negsuc k) p f = round_whole binary64 s (m * 1 / 2 ^ suc k) (cut_small m k (fits_says s m (negsuc k) p f).1)
