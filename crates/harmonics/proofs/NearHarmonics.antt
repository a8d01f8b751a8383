-- The harmonic near a number above zero is at least 1, and is a u32. Assumes nothing.
use Rattle.std.proofs.Common.{◌≡◌, ℕ, zero, suc, ◌+◌, ◌-◌, ◌*◌, ◌/◌, ◌^◌, ◌<◌, ◌≤◌, Bool, true, false, ◌&&◌, T, eqb, ℤ, pos, refl, subst, mul-pos, le-div_iff_mul-le, arith, lit<, ne_eqb}
use lib.Ieee.{Float, nan, inf, fin, binary64, up, down, round, neg, div, lt, le, eq, to_unsigned, size}
use lib.Ieee.Casts.{to_unsigned-lt}
use lib.Ieee.Fits.{down_pos, up_pos}
use lib.Ieee.Order.{round_mono}
use Rattle.base.specs.Said.{pick}
use Rattle.floats.specs.Floats.{floor}
use Rattle.floats.proofs.Compare.{le_pos}
use Rattle.floats.proofs.Ranges.{Within, within_fin}
use Rattle.floats.proofs.Sign.{round_neg}
use Rattle.harmonics.specs.Segment.{harmonic_of}

-- 1.0
abbrev One : Float
One = fin false 1 (pos 0)

-- from 1.0 on, a cast is at least 1
some_cast : (y : Float) → T (le One y) → 0 < to_unsigned 32 y
unfolding le lt eq to_unsigned
some_cast nan t = absurd t
some_cast (inf true) t = absurd t
some_cast (inf false) t = lit< tt
some_cast (fin true m e) t = absurd (subst T (go (eqb (1 * 1 * down e) (m * up e * 1)) (ne_eqb (1 * 1 * down e) 0 (λ z. omega (arith, z, down_pos e)))) t)
  where
    go : (b : Bool) {x : Bool} → x ≡ false → (b && x) ≡ false
    go true h = h
    go false h = refl
some_cast (fin false m e) t =
    let q : 1 ≤ m * up e / down e = (le-div_iff_mul-le (down_pos e)).1 (omega (arith, le_pos 1 m (pos 0) e t)) in
    omega arith

one_is : round binary64 false 1 1 ≡ One
unfolding round size
one_is = refl

zero_is : round binary64 false 0 1 ≡ fin false 0 (pos 0)
unfolding round size
zero_is = refl

some_whole : (k : ℕ) → 0 < k → 0 < to_unsigned 32 (round binary64 false k 1)
some_whole k p = some_cast (round binary64 false k 1) (subst (λ (x : Float). T (le x (round binary64 false k 1))) one_is (round_mono binary64 1 1 k 1 (lit< tt) (lit< tt) (omega arith)))

inf_above : (y : Float) → lt (inf false) y ≡ false
unfolding lt
inf_above nan = refl
inf_above (inf t) = refl
inf_above (fin t n d) = refl

-- over 0.0 it is infinite
over_zero : (m : ℕ) (e : ℤ) → 0 < m → div binary64 (fin false m e) (fin false 0 (pos 0)) ≡ inf false
unfolding div
over_zero m e p = rw (ne_eqb m 0 (λ z. omega (arith, z)))

-- THE HARMONIC is at least 1
pub harmonic_some : {a b : ℕ} {h : Float} → Within a b h → 0 < harmonic_of h
unfolding harmonic_of floor neg
harmonic_some (within_fin m e p lo hi) = go (m * up e / down e) refl
  where
    high : ℕ
    high = (m * up e + (down e - 1)) / down e

    high_some : 0 < high
    high_some = let q : 1 ≤ (m * up e + (down e - 1)) / down e = (le-div_iff_mul-le (down_pos e)).1 (omega (arith, mul-pos p (up_pos e), down_pos e)) in q

    by : (b : Bool) (k : ℕ) → 0 < k → 0 < to_unsigned 32 (pick b (round binary64 false k 1) (neg (round binary64 true high 1)))
    by true k q = some_whole k q
    by false k q = rw (round_neg binary64 true high 1) (some_whole high high_some)

    go : (k : ℕ) → m * up e / down e ≡ k → 0 < to_unsigned 32 (pick (lt (div binary64 (fin false m e) (round binary64 false (m * up e / down e) 1)) (div binary64 (neg (round binary64 true high 1)) (fin false m e))) (round binary64 false (m * up e / down e) 1) (neg (round binary64 true high 1)))
    go zero q = rw (q, zero_is, over_zero m e p, inf_above (div binary64 (neg (round binary64 true high 1)) (fin false m e))) (by false 1 (lit< tt))
    go (suc k) q = by (lt (div binary64 (fin false m e) (round binary64 false (m * up e / down e) 1)) (div binary64 (neg (round binary64 true high 1)) (fin false m e))) (m * up e / down e) (omega (arith, q))

-- and a u32
pub harmonic_below : (h : Float) → harmonic_of h < 2 ^ 32
unfolding harmonic_of
harmonic_below h = to_unsigned-lt 32 _
