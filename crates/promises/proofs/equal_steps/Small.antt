-- The octaves of E of a small number: E of a number in 0..2^-(j+1) is at most T_j / 2^62, and L of such a ratio has its first bits clear.
-- Assumes nothing.
use mathlib.Core.Path.{◌≡◌, refl, sym, ◌∙◌, ap, subst}
use mathlib.Core.Logic.{inl, inr}
use mathlib.Core.Bool.{Bool, true, false, true≢false}
use Prim.Native.Nat.{ℕ, zero, suc, ◌+◌, ◌-◌, ◌*◌, ◌/◌, ◌%◌, ◌^◌, ◌≤◌, ◌<◌}
use native.Mathlib.Nat.{le_trans, le_of_eq, le_of_lt, lt_of_lt_of_le, lt_of_le_of_lt, mul-one, one-mul, mul_comm, mul_assoc, mul_right_comm, mul_left_comm, mul-le-mul_right, mul-le-mul_left, le_of_mul-le-mul_right, div-le_of_le-mul, div-lt_iff_lt-mul, div-eq_of_lt, div-mul-le_self, eq-or-lt_of_le}
use native.Mathlib.Omega.{arith}
use lib.Dec.{T, eqb, lit<, lit≤}
use lib.Pow.{pow_pos, pow-add, pow_mono, pow-lt}
use lib.IntN.{ℤ}
use lib.Ieee.{Float, fin, binary64, up, down, round, fits, le, inf, nan}
use lib.Ieee.Exact.{HasValue, round_exact}
use lib.Ieee.Fits.{down_pos}
use lib.Ieee.Order.{round_mono}
use lib.Ieee.Scale.{finite, round_val, round_under}
use Rattle.base.specs.Said.{gives, pick}
use Rattle.floats.specs.Units.{units_of, negative}
use Rattle.floats.proofs.Compare.{le_pos}
use Rattle.floats.proofs.Sized.{Sized, sized, round_sized}
use Rattle.explog.specs.Exp.{t_of, p_of, step_e}
use Rattle.explog.specs.Rules.{E, L, in_powers, floor_of, power_of}
use Rattle.powers.proofs.Bound.{powers}
use Rattle.powers.proofs.Entries.{t_above}
use Rattle.explog.proofs.Floor.{plus}
use Rattle.explog.proofs.LiteralE.{e_literal}
use Rattle.explog.proofs.Plain.{plain_floor, plain_power}
use Rattle.explog.proofs.Theorems.{table_root}
use Rattle.explog.proofs.Values.{given}

-- ---- a float in 0..2^-i
pub data Small (i : ℕ) : Float → Type 0 where
  small : (m : ℕ) (e : ℤ) → m * up e * 2 ^ i ≤ down e → Small i (fin false m e)

part_value : (i : ℕ) → i ≤ 1000 → HasValue (round binary64 false 1 (2 ^ i)) false 1 (2 ^ i)
part_value i h =
    let e : 1074 - i + i ≡ 1074 = omega arith in
    let j : 1074 - i < 2098 = omega arith in
    round_exact binary64 false 1 (2 ^ i) 1 (1074 - i) (pow_pos i) (lit< tt) (lt_of_le_of_lt (le_of_eq (one-mul (2 ^ (1074 - i)))) (pow-lt j))
    (ap (λ (z : ℕ). 1 * 2 ^ z) (sym e) ∙ ap (λ (z : ℕ). 1 * z) (pow-add 2 (1074 - i) i) ∙ sym (mul_assoc 1 (2 ^ (1074 - i)) (2 ^ i)))

under_part : (i g : ℕ) (x hi : Float) → HasValue x false g (2 ^ 1074) → HasValue hi false 1 (2 ^ i) → T (le x hi) → Small i x
under_part i g (fin true m e) hi v w t = absurd (true≢false v.0)
under_part i g (fin false m e) (fin true k d) v w t = absurd (true≢false w.0)
under_part i g (fin false m e) (fin false k d) v w t =
    small m e
    (le_of_mul-le-mul_right
    (le_trans (le_of_eq (mul_right_comm (m * up e) (2 ^ i) (down d)))
    (le_trans (mul-le-mul_right (2 ^ i) (le_pos m k e d t)) (le_of_eq (mul_right_comm (k * up d) (down e) (2 ^ i) ∙ ap (λ (z : ℕ). z * down e) (w.1 ∙ one-mul (down d)) ∙ mul_comm (down d) (down e)))))
    (down_pos d))
under_part i g nan hi v w t = elim v [ ]
under_part i g (inf _) hi v w t = elim v [ ]
under_part i g (fin false m e) nan v w t = elim w [ ]
under_part i g (fin false m e) (inf _) v w t = elim w [ ]

sized_finite : {n : ℕ} {x : Float} → Sized n x → T (finite x)
sized_finite (sized s m e h) = tt

-- a fraction there rounds to a float there
pub round_small : (i a b : ℕ) → i ≤ 1000 → 0 < b → a * 2 ^ i ≤ b → Small i (round binary64 false a b)
round_small i a b s p h =
    let one : a ≤ 1 * b = le_trans (le_trans (le_of_eq (sym (mul-one a))) (mul-le-mul_left a (pow_pos i))) (le_trans h (le_of_eq (sym (one-mul b)))) in
    let t = sized_finite (round_sized 1 false a b (lit≤ tt) p one) in
    under_part i _ (round binary64 false a b) (round binary64 false 1 (2 ^ i)) (round_val binary64 a b (round_under binary64 a b t)) (part_value i s)
    (round_mono binary64 a b 1 (2 ^ i) p (pow_pos i) (le_trans h (le_of_eq (sym (one-mul b)))))

small_units : {i : ℕ} {x : Float} → i ≤ 1000 → Small i x → (units_of x ≤ 2 ^ (1074 - i)) × ((negative x ≡ false) × T (finite x))
unfolding units_of negative
small_units {i} s (small m e h) =
    let z : i + (1074 - i) ≡ 1074 = omega arith in (
      div-le_of_le-mul (down e)
          (le_trans (le_of_eq (ap (λ (q : ℕ). m * up e * q) (ap (λ (q : ℕ). 2 ^ q) (sym z) ∙ pow-add 2 i (1074 - i)) ∙ sym (mul_assoc (m * up e) (2 ^ i) (2 ^ (1074 - i)))))
          (mul-le-mul_right (2 ^ (1074 - i)) h)),
      (refl, tt),
    )

-- ---- P, where the first j bits of b are clear
module _ (b j : ℕ) (h : b < 2 ^ (52 - j)) where
  -- no step before them changes P
  still : (k : ℕ) → k ≤ j → p_of b k ≡ 2 ^ 62
  unfolding p_of
  still zero l = refl
  still (suc k) l =
      let o : 52 - j ≤ 52 - suc k = omega arith in
      let z : b / 2 ^ (52 - suc k) ≡ 0 = div-eq_of_lt (lt_of_lt_of_le h (pow_mono o)) in
      ap (λ (x : ℕ). step_e (eqb (x % 2) 1) (p_of b k) (t_of (suc k))) z ∙ still k (omega arith)

  module _ (C p t u : ℕ) (sq : u * u ≤ 2 ^ 62 * t) (above : 2 ^ 62 < u) (bound : p * t ≤ C) where
    set : p * u / 2 ^ 62 * u ≤ C
    set = le_of_mul-le-mul_right
        (le_trans (le_of_eq (mul_right_comm (p * u / 2 ^ 62) u (2 ^ 62)))
        (le_trans (mul-le-mul_right u (div-mul-le_self (p * u) (2 ^ 62)))
        (le_trans (le_of_eq (mul_assoc p u u))
        (le_trans (mul-le-mul_left p sq)
        (le_trans (le_of_eq (mul_left_comm p (2 ^ 62) t ∙ mul_comm (2 ^ 62) (p * t))) (mul-le-mul_right (2 ^ 62) bound))))))
        (pow_pos 62)

    clear : p * u ≤ C
    clear =
        let falls : u ≤ t = le_of_mul-le-mul_right (le_trans (le_trans sq (mul-le-mul_right t (le_of_lt above))) (le_of_eq (mul_comm u t))) (le_trans (lit< tt) above) in
        le_trans (mul-le-mul_left p falls) bound

    stepped : (c : Bool) → step_e c p u * u ≤ C
    stepped true = set
    stepped false = clear

  from_at : (k : ℕ) → j ≡ k → p_of b k * t_of k ≤ 2 ^ 62 * t_of j
  from_at k e = le_of_eq (ap (λ (x : ℕ). x * t_of k) (still k (omega (arith, e))) ∙ ap (λ (x : ℕ). 2 ^ 62 * t_of x) (sym e))

  next : (C k : ℕ) → suc k ≤ 52 → p_of b k * t_of k ≤ C → p_of b (suc k) * t_of (suc k) ≤ C
  unfolding p_of
  next C k s q = stepped C (p_of b k) (t_of k) (t_of (suc k)) (table_root k s).0 (t_above (suc k) s) q (eqb (b / 2 ^ (52 - suc k) % 2) 1)

  -- from there on P_k * T_k is at most 2^62 * T_j
  from : (k : ℕ) → j ≤ k → k ≤ 52 → p_of b k * t_of k ≤ 2 ^ 62 * t_of j
  from zero l s = from_at zero (omega arith)
  from (suc k) l s = elim (eq-or-lt_of_le l) [
    | inl e ↦ from_at (suc k) e
    | inr m ↦ next (2 ^ 62 * t_of j) k s (from k (omega (arith, m)) (omega arith))
  ]

  last_power : j ≤ 52 → p_of b 52 ≤ t_of j
  last_power s =
      le_of_mul-le-mul_right
      (le_trans (mul-le-mul_left (p_of b 52) (le_of_lt (t_above 52 (lit≤ tt)))) (le_trans (from 52 s (lit≤ tt)) (le_of_eq (mul_comm (2 ^ 62) (t_of j)))))
      (pow_pos 62)

-- ---- E of a number in 0..2^-(j+1): at least 1, and at most T_j / 2^62
pub record Powered (j : ℕ) (r : Float) : Type 0 where
  pub power : ℕ
  pub low : 2 ^ 62 ≤ power
  pub high : power ≤ t_of j
  pub is : r ≡ round binary64 false (power * 2 ^ 1024) (2 ^ 1086)

floor_parts : (u v F : ℕ) → v ≡ u / 2 ^ 1022 → v < 2 ^ 52 → F ≡ (2 ^ 62 * 2 ^ 1022 + u) / 2 ^ 1022 → (F / 2 ^ 52 ≡ 1024) × (F % 2 ^ 52 ≡ v)
floor_parts u v F e h f =
    let q : F ≡ 1024 * 2 ^ 52 + v = f ∙ plus (2 ^ 62) (2 ^ 1022) u (pow_pos 1022) ∙ ap (λ (z : ℕ). 2 ^ 62 + z) (sym e) in
    (omega (arith, q, h), omega (arith, q, h))

power_at : (x r : Float) → E x ≡ gives r → (in_powers x ≡ true) × (power_of (floor_of x) ≡ r)
unfolding E
power_at x r h = given (in_powers x) (power_of (floor_of x)) r 18 0 h

pub exp_small : (j : ℕ) (x r : Float) → j ≤ 50 → fits binary64 x ≡ true → Small (suc j) x → E x ≡ gives r → Powered j r
unfolding plain_power plain_floor
exp_small j x r s f w h =
    let t = small_units (omega arith) w in
    let u = units_of x in
    let v = u / 2 ^ 1022 in
    let z : 1074 - suc j < 52 - j + 1022 = omega arith in
    let less : u < 2 ^ (52 - j) * 2 ^ 1022 = lt_of_le_of_lt t.0 (lt_of_lt_of_le (pow-lt z) (le_of_eq (pow-add 2 (52 - j) 1022))) in
    let bits : v < 2 ^ (52 - j) = (div-lt_iff_lt-mul (pow_pos 1022)).1 less in
    let o : 52 - j ≤ 52 = omega arith in
    let parts = floor_parts u v (plain_floor x) refl (lt_of_lt_of_le bits (pow_mono o)) (ap (λ (n : Bool). pick n (2 ^ 1084 - u) (2 ^ 1084 + u) / 2 ^ 1022) t.1.0) in
    let most : u ≤ 900 * 2 ^ 1074 = le_trans t.0 (le_trans (pow_mono (let q : 1074 - suc j ≤ 1074 = omega arith in q)) (le_trans (le_of_eq (sym (one-mul (2 ^ 1074)))) (mul-le-mul_right {m = 1} {n = 900} (2 ^ 1074) (lit≤ tt)))) in
    let same : plain_power (plain_floor x) ≡ r = e_literal x (subst T (sym f) tt) t.1.1 most ∙ (power_at x r h).1 in
    record {
      power = p_of v 52;
      low = (powers v 52 (lit≤ tt)).above;
      high = last_power v j bits (omega arith);
      is = sym same ∙ ap (λ (b : ℕ). round binary64 false (p_of b 52 * 2 ^ (plain_floor x / 2 ^ 52)) (2 ^ 1086)) parts.1 ∙ ap (λ (n : ℕ). round binary64 false (p_of v 52 * 2 ^ n) (2 ^ 1086)) parts.0;
    }
