-- E from the parts of x: the bounds that its steps ask for, and the value they make. Assumes nothing.
use Rattle.std.proofs.Common.{◌≡◌, ℕ, ◌+◌, ◌-◌, ◌*◌, ◌/◌, ◌%◌, ◌^◌, ◌<◌, ◌≤◌, Bool, true, false, T, sym, ap, ◌∙◌, subst, le_trans, le_of_eq, lt_of_lt_of_le, le_of_suc-le-suc, mul-le-mul_right, mul_comm, mul-le-mul_left, lt_of_not-le, le-div_iff_mul-le, not-le_of_lt, arith, lit<, lit≤, pow_pos, pow_mono}
use native.Mathlib.Nat.{div-div-eq-div-mul, div-le_of_le-mul}
use lib.Ieee.{Float, binary64, round, fits}
use Rattle.base.specs.Said.{gives, refuses, pick}
use Rattle.floats.specs.Units.{Unpacked}
use Rattle.explog.specs.Exp.{p_of}
use Rattle.explog.specs.Rules.{E, in_powers}
use Rattle.explog.proofs.Plain.{plain_floor, plain_power}
use Rattle.explog.proofs.LiteralE.{e_literal}
use Rattle.explog.proofs.Range.{e_range}

sides : (s : Bool) (M u : ℕ) → u ≤ 900 * M → (124 * M ≤ pick s (1024 * M - u) (1024 * M + u)) × (pick s (1024 * M - u) (1024 * M + u) ≤ 1924 * M)
sides true M u h = omega arith
sides false M u h = omega arith

-- n + 1024 lies in 124..1924
pub whole_range : (s : Bool) (u F : ℕ) → u ≤ 900 * 2 ^ 1074 → F ≡ pick s (2 ^ 1084 - u) (2 ^ 1084 + u) / 2 ^ 1022 → (124 ≤ F / 2 ^ 52) × (F / 2 ^ 52 ≤ 1924)
whole_range s u F h e =
    let X = pick s (2 ^ 1084 - u) (2 ^ 1084 + u) in
    let q : F / 2 ^ 52 ≡ X / 2 ^ 1074 = ap (λ (z : ℕ). z / 2 ^ 52) e ∙ div-div-eq-div-mul X (2 ^ 1022) (2 ^ 52) in
    let b = sides s (2 ^ 1074) u h in (
      subst (λ (z : ℕ). 124 ≤ z) (sym q) ((le-div_iff_mul-le (pow_pos 1074)).1 b.0),
      subst (λ (z : ℕ). z ≤ 1924) (sym q) (div-le_of_le-mul (2 ^ 1074) (le_trans b.1 (le_of_eq (mul_comm 1924 (2 ^ 1074))))),
    )

-- the parts of an x in -900..900
module _ (x : Float) (s : Bool) (d k : ℕ) (p : Unpacked x s d k) (t : in_powers x ≡ true) where
  units_small : d * 2 ^ k ≤ 900 * 2 ^ 1074
  units_small = le_trans (le_of_eq (sym p.is)) (e_range x t).1

  pub size_under : d * 2 ^ k ≤ 2 ^ 1084
  size_under = le_trans units_small (lit≤ tt)

  pub exponent_under : k ≤ 1032
  exponent_under =
      le_of_suc-le-suc (lt_of_not-le (λ (g : 1033 ≤ k).
      let z : 0 < k = omega arith in
      not-le_of_lt (lt_of_lt_of_le (lit< tt) (le_trans (mul-le-mul_right (2 ^ 1033) (p.normal z)) (mul-le-mul_left d (pow_mono g)))) size_under))

  -- f, moved up by 2 ^ 62, from the parts
  module _ (F : ℕ) (e : F ≡ pick s (2 ^ 1084 - d * 2 ^ k) (2 ^ 1084 + d * 2 ^ k) / 2 ^ 1022) where
    pub whole_under : (124 ≤ F / 2 ^ 52) × (F / 2 ^ 52 ≤ 1924)
    whole_under = whole_range s (d * 2 ^ k) F units_small e

    floor_is : F ≡ plain_floor x
    unfolding plain_floor
    floor_is = e ∙ (λ i. pick (p.sign i) (2 ^ 1084 - sym p.is i) (2 ^ 1084 + sym p.is i) / 2 ^ 1022)

    pub power_is : (r : Float) → fits binary64 x ≡ true → r ≡ round binary64 false (p_of (F % 2 ^ 52) 52 * 2 ^ (F / 2 ^ 52)) (2 ^ 1086) → gives r ≡ E x
    unfolding plain_power E
    power_is r f q = rw t (ap gives (q ∙ ap plain_power floor_is ∙ e_literal x (subst T (sym f) tt) (e_range x t).0 (e_range x t).1))

pub power_refused : (x : Float) → in_powers x ≡ false → refuses 18 0 ≡ E x
unfolding E
power_refused x t = rw t
