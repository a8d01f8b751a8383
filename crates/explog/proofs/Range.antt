-- What the tests of E and L say of x: it is finite, and its units are bounded. Assumes nothing.
use Rattle.std.proofs.Common.{◌≡◌, ℕ, ◌*◌, ◌/◌, ◌^◌, ◌≤◌, true, false, T, ℤ, pos, ◌∙◌, subst, le_trans, le_of_eq, mul-le-mul_right, mul_comm, mul-one, mul_right_comm, lit≤}
use native.Mathlib.Nat.{div-le_of_le-mul}
use lib.Ieee.{Float, nan, inf, fin, up, down, le, lt, eq, neg, of_bits}
use lib.Ieee.Scale.{finite}
use Rattle.floats.specs.Units.{units_of}
use Rattle.floats.specs.Ranges.{in_reach}
use Rattle.floats.proofs.Ranges.{and_true, within_finite, reach_says}
use Rattle.floats.proofs.Units.{within_units}
use Rattle.floats.proofs.Compare.{le_pos, le_neg}
use Rattle.explog.specs.Rules.{in_powers}

-- ---- E
cut : (m c : ℕ) (e : ℤ) → m * up e ≤ c * down e → m * up e * 2 ^ 1074 / down e ≤ c * 2 ^ 1074
cut m c e h = div-le_of_le-mul (down e) (le_trans (mul-le-mul_right (2 ^ 1074) h) (le_of_eq (mul_right_comm c (down e) (2 ^ 1074) ∙ mul_comm (c * 2 ^ 1074) (down e))))

pub e_range : (x : Float) → in_powers x ≡ true → T (finite x) × (units_of x ≤ 900 * 2 ^ 1074)
unfolding units_of le lt eq of_bits neg
e_range x h = let t = and_true (le (fin true 225 (pos 2)) x) (le x (fin false 225 (pos 2))) h in go x t.0 t.1
  where
    go : (x : Float) → T (le (fin true 225 (pos 2)) x) → T (le x (fin false 225 (pos 2))) → T (finite x) × (units_of x ≤ 900 * 2 ^ 1074)
    go nan a b = absurd a
    go (inf true) a b = absurd a
    go (inf false) a b = absurd b
    go (fin true m e) a b = (tt, cut m 900 e (subst (λ (z : ℕ). z ≤ 900 * down e) (mul-one (m * up e)) (le_neg 225 m (pos 2) e a)))
    go (fin false m e) a b = (tt, cut m 900 e (subst (λ (z : ℕ). z ≤ 900 * down e) (mul-one (m * up e)) (le_pos m 225 e (pos 2) b)))

-- ---- L
pub l_range : (x : Float) → in_reach x ≡ true → T (finite x) × (2 ^ 174 ≤ units_of x)
l_range x h = let w = reach_says x h in (within_finite w, within_units 900 (lit≤ tt) w)
