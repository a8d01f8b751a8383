-- From -2 ^ 31 up to 2 ^ 31: the machine's whole part is an i32. Assumes nothing.
use Rattle.std.proofs.Common.{◌≡◌, ℕ, ◌+◌, ◌-◌, ◌*◌, ◌/◌, ◌^◌, ◌<◌, ◌≤◌, min, true, false, T, ltb, ℤ, pos, neg_ℤ, sym, ap, subst, div-lt_iff_lt-mul, arith, lt→ltb, ltb-true}
use lib.Ieee.{Float, nan, inf, fin, up, down, lt, le, eq, to_signed}
use lib.Ieee.Fits.{down_pos}
use Rattle.floats.proofs.Compare.{le_neg, or_left}

-- from -2 ^ 31 up to 2 ^ 31
pub data In31 : Float → Type 0 where
  pin : (m : ℕ) (e : ℤ) → m * up e < 2 ^ 31 * down e → In31 (fin false m e)
  nin : (m : ℕ) (e : ℤ) → m * up e ≤ 2 ^ 31 * down e → In31 (fin true m e)

-- what the two tests say
pub in31 : (x : Float) → le (fin true 1 (pos 31)) x ≡ true → lt x (fin false 1 (pos 31)) ≡ true → In31 x
unfolding le lt eq
in31 nan h g = absurd (subst T (sym g) tt)
in31 (inf false) h g = absurd (subst T (sym g) tt)
in31 (inf true) h g = absurd (subst T (sym h) tt)
in31 (fin false m e) h g = pin m e (omega (arith, ltb-true (m * up e * 1) (1 * 2 ^ 31 * down e) g))
in31 (fin true m e) h g = nin m e (omega (arith, le_neg 1 m (pos 31) e (subst T (sym h) tt)))

-- so the machine's conversion to 64 bits is defined
pub in63 : {x : Float} → In31 x → T (le (fin true 1 (pos 63)) x) × T (lt x (fin false 1 (pos 63)))
unfolding le lt
in63 (pin m e h) = (
  or_left (ltb 0 (1 * 2 ^ 63 * down e + m * up e * 1)) (eq (fin true 1 (pos 63)) (fin false m e)) (lt→ltb 0 (1 * 2 ^ 63 * down e + m * up e * 1) (omega (arith, down_pos e))),
  lt→ltb (m * up e * 1) (1 * 2 ^ 63 * down e) (omega (arith, down_pos e)),
)
in63 (nin m e h) = (
  or_left (ltb (m * up e * 1) (1 * 2 ^ 63 * down e)) (eq (fin true 1 (pos 63)) (fin true m e)) (lt→ltb (m * up e * 1) (1 * 2 ^ 63 * down e) (omega (arith, down_pos e))),
  lt→ltb 0 (m * up e * 1 + 1 * 2 ^ 63 * down e) (omega (arith, down_pos e)),
)

same_cap : (a c d : ℕ) → a ≤ c → a ≤ d → min a c ≡ min a d
same_cap a c d h k = omega arith

-- and gives the number of 32 bits
pub same_signed : {x : Float} → In31 x → to_signed 63 x ≡ to_signed 31 x
unfolding to_signed
same_signed (pin m e h) =
    let c : m * up e / down e < 2 ^ 31 = (div-lt_iff_lt-mul (down_pos e)).1 h in
    ap pos (same_cap (m * up e / down e) (2 ^ 63 - 1) (2 ^ 31 - 1) (omega arith) (omega arith))
same_signed (nin m e h) =
    let c : m * up e / down e < 2 ^ 31 + 1 = (div-lt_iff_lt-mul (down_pos e)).1 (omega (arith, down_pos e)) in
    ap (λ (n : ℕ). neg_ℤ (pos n)) (same_cap (m * up e / down e) (2 ^ 63) (2 ^ 31) (omega arith) (omega arith))
