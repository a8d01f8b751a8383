-- The sign of a rounded number is only carried along; the size of a number. Assumes nothing.
use Rattle.std.proofs.Common.{◌≡◌, ℕ, zero, suc, ◌+◌, ◌-◌, ◌*◌, ◌/◌, ◌%◌, ◌^◌, Bool, true, false, cond, not, T, ltb, sym, refl, ap, ◌∙◌, subst, zero-mul, arith, ltb-false}
use Prim.Native.Nat.{compare}
use lib.Ieee.{Float, nan, inf, fin, Format, binary64, prec, emax, low, size, odd, units, nearest, up, down, round, neg, lt, eq, fits}
use lib.Ieee.Positive.{positive}
use lib.Ieee.Scale.{finite}
use lib.Ieee.Fits.{round_is}
use Rattle.floats.specs.Floats.{abs}
use Rattle.floats.proofs.Order.{Zero, Negative, ninf, nfin, negative, is_zero}

neg_odd : (d : ℕ) (s : Bool) (q k l : ℕ) → neg (odd d s q k l) ≡ odd d (not s) q k l
unfolding neg odd
neg_odd d s zero k l = refl
neg_odd d s (suc q) k l = refl

neg_cond : (b : Bool) (x y : Float) → neg (cond b x y) ≡ cond b (neg x) (neg y)
neg_cond true x y = refl
neg_cond false x y = refl

-- the sign of a rounded number is only carried along
pub round_neg : (f : Format) (s : Bool) (a b : ℕ) → neg (round f s a b) ≡ round f (not s) a b
unfolding neg units
round_neg f s a b =
    let n = a * 2 ^ low f in
    let k = size (n / b) - prec f in
    let q = nearest (n / (b * 2 ^ k)) (compare (n % (b * 2 ^ k) * 2) (b * 2 ^ k)) in
    ap neg (round_is f s a b)
    ∙ neg_cond (ltb (q * 2 ^ k) (2 ^ (low f + suc (emax f)))) (odd (suc (prec f)) s q k (low f)) (inf s)
    ∙ ap (λ (x : Float). cond (ltb (q * 2 ^ k) (2 ^ (low f + suc (emax f)))) x (inf (not s))) (neg_odd (suc (prec f)) s q k (low f))
    ∙ sym (round_is f (not s) a b)

-- the size of a number below zero, of a zero, and of the rest
abs_of_negative : {x : Float} → Negative x → neg x ≡ abs x
unfolding neg abs
abs_of_negative ninf = refl
abs_of_negative (nfin m e p) = refl

pub abs_negative : (x : Float) → lt x Zero ≡ true → neg x ≡ abs x
abs_negative x h = abs_of_negative (negative x h)

pub abs_zero : (x : Float) → fits binary64 x ≡ true → eq x Zero ≡ true → Zero ≡ abs x
unfolding abs
abs_zero x f h = let z = is_zero x f h in sym (ap abs z.1)

pub abs_rest : (x : Float) → lt x Zero ≡ false → eq x Zero ≡ false → x ≡ abs x
unfolding abs lt eq
abs_rest nan h g = refl
abs_rest (inf false) h g = refl
abs_rest (inf true) h g = absurd (subst T h tt)
abs_rest (fin false m e) h g = refl
abs_rest (fin true m e) h g =
    let b : 0 * 1 * down e ≡ 0 = zero-mul (down e) in
    let a : m * up e * 1 ≡ 0 = omega (arith, ltb-false 0 (m * up e * 1 + 0 * 1 * down e) h) in
    absurd (subst T (rw (a, b) at g) tt)

pub abs_positive : (x : Float) → T (positive x) → abs x ≡ x
unfolding abs
abs_positive nan h = absurd h
abs_positive (inf s) h = absurd h
abs_positive (fin true m e) h = absurd h
abs_positive (fin false m e) h = refl

pub abs_neg : (x : Float) → abs (neg x) ≡ abs x
unfolding abs neg
abs_neg nan = refl
abs_neg (inf s) = refl
abs_neg (fin s m e) = refl

pub finite_neg : (x : Float) → T (finite x) → T (finite (neg x))
unfolding neg
finite_neg nan h = absurd h
finite_neg (inf s) h = absurd h
finite_neg (fin s m e) h = tt
