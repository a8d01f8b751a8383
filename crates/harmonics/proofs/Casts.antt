-- The Rust's `as u32` of an f64, by the tests that the code makes. Assumes nothing.
use Rattle.std.proofs.Common.{◌≡◌, ℕ, ◌*◌, ◌/◌, ◌^◌, ◌<◌, ◌≤◌, true, false, T, ℤ, pos, sym, refl, subst, div-lt_iff_lt-mul, le-div_iff_mul-le, arith, lt→ltb, ltb-false, ltb-true}
use native.Mathlib.Nat.{zero-div}
use lib.Ieee.{Float, nan, inf, fin, up, down, lt, to_unsigned}
use lib.Ieee.Fits.{down_pos}
use Rattle.floats.proofs.Order.{Zero, Positive, pinf, pfin, above_minus_one}
use Rattle.floats.proofs.Whole.{Past64}

-- 2 ^ 32, where u32 ends
abbrev pub Past32 : Float
Past32 = fin false 1 (pos 32)

under : (m : ℕ) (e : ℤ) → lt (fin false m e) Past32 ≡ true → m * up e < 2 ^ 32 * down e
unfolding lt
under m e h = omega (arith, ltb-true (m * up e * 1) (1 * 2 ^ 32 * down e) h)

pub cast_asks : {x : Float} → Positive x → lt x Past32 ≡ true → T (lt (fin true 1 (pos 0)) x) × T (lt x Past64)
unfolding lt
cast_asks pinf h = absurd (subst T (sym h) tt)
cast_asks (pfin m e p) h = (above_minus_one (pfin m e p), lt→ltb (m * up e * 1) (1 * 2 ^ 64 * down e) (omega (arith, under m e h, down_pos e)))

-- below 2 ^ 32 the whole part
pub cast_under : {x : Float} → Positive x → lt x Past32 ≡ true → to_unsigned 64 x ≡ to_unsigned 32 x
unfolding to_unsigned lt
cast_under pinf h = absurd (subst T (sym h) tt)
cast_under (pfin m e p) h =
    let q : m * up e / down e < 2 ^ 32 = (div-lt_iff_lt-mul (down_pos e)).1 (under m e h) in
    omega arith

-- from there on the largest u32
pub cast_over : {x : Float} → Positive x → lt x Past32 ≡ false → 4294967295 ≡ to_unsigned 32 x
unfolding to_unsigned lt
cast_over pinf h = refl
cast_over (pfin m e p) h =
    let q : 2 ^ 32 ≤ m * up e / down e = (le-div_iff_mul-le (down_pos e)).1 (omega (arith, ltb-false (m * up e * 1) (1 * 2 ^ 32 * down e) h)) in
    omega arith

-- not above zero, or a NaN: 0
pub cast_none : (x : Float) → lt Zero x ≡ false → 0 ≡ to_unsigned 32 x
unfolding to_unsigned lt
cast_none nan h = refl
cast_none (inf true) h = refl
cast_none (inf false) h = absurd (subst T h tt)
cast_none (fin true m e) h = refl
cast_none (fin false m e) h =
    let z : m * up e ≡ 0 = omega (arith, ltb-false (0 * 1 * down e) (m * up e * 1) h, native.Mathlib.Nat.zero-mul (down e)) in
    rw (z, zero-div (down e))
