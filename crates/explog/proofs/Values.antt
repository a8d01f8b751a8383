-- What L answers for an f64, by its digits and its exponent, and how far that is from zero: V = (e + 52) * 2 ^ 52 + B is
-- k * 2 ^ 52 + B - 1022 * 2 ^ 52 for x = d * 2 ^ (k - 1074). Assumes nothing.
use Rattle.std.proofs.Common.{◌≡◌, ℕ, ◌+◌, ◌*◌, ◌^◌, ◌<◌, ◌≤◌, Bool, true, false, T, sym, refl, ◌∙◌, subst, le_trans, le_of_eq, lt_of_lt_of_le, lt_of_le_of_lt, mul-le-mul_right, mul_assoc, mul-le-mul, lt_of_mul-lt-mul_right, mul-lt-mul_of_pos_right, lt_of_not-le, mul_right_comm, not-le_of_lt, le_of_mul-le-mul_right, arith, lit≤, pow_pos, pow_mono, shl_lt}
use native.Mathlib.Decide.{dec_le}
use lib.Ieee.{Float, fin, binary64, fits}
use lib.Ieee.Exact.{HasValue}
use Rattle.base.specs.Said.{gives, refuses, pick}
use Rattle.base.proofs.Said.{same_value}
use Rattle.floats.specs.Ranges.{in_reach}
use Rattle.floats.specs.Units.{units_of}
use Rattle.floats.proofs.Ranges.{Within, within_fin, reach_says}
use Rattle.floats.proofs.Decode.{Located, located, units_of_law}
use Rattle.floats.proofs.Units.{not_subnormal}
use Rattle.explog.specs.Log.{b_of}
use Rattle.explog.specs.Rules.{L, log_of}
use Rattle.explog.proofs.Plain.{plain_log}
use Rattle.explog.proofs.Range.{l_range}
use Rattle.explog.proofs.LiteralL.{l_literal}
use Rattle.powers.proofs.Turns.{b_size}
use Rattle.explog.proofs.Far.{bits_above, bits_below}

-- ---- a value that is given
pub given : {A : Type 0} (b : Bool) (a r : A) (n d : ℕ) → pick b (gives a) (refuses n d) ≡ gives r → (b ≡ true) × (a ≡ r)
given true a r n d h = (refl, same_value a r h)
given false a r n d h = let z : ◌≡◌ {A = ℕ} 0 1 = cc in absurd (omega arith)

pub answered : (x r : Float) → L x ≡ gives r → (in_reach x ≡ true) × (log_of x ≡ r)
unfolding L
answered x r h = given (in_reach x) (log_of x) r 18 0 h

-- ---- x by its digits and its exponent
pub record Logged (x : Float) : Type 0 where
  pub d : ℕ
  pub k : ℕ
  pub value : HasValue x false (d * 2 ^ k) (2 ^ 1074)
  pub low : 2 ^ 52 ≤ d
  pub high : d < 2 ^ 53
  pub top : k ≤ 2045
  pub is : plain_log d k ≡ log_of x

of_located : {x : Float} {s : Bool} {q j : ℕ} → Within 900 900 x → fits binary64 x ≡ true → in_reach x ≡ true → Located x s q j → Logged x
of_located {s = s} {q = q} {j = j} (within_fin m e p lo hi) f t l =
    let x = fin false m e in
    let u = (units_of_law x s (q * 2 ^ j) l.value).0 in
    let h = l_range x t in
    let n = l.normal (not_subnormal q j (units_of x) u l.small (le_trans (lit≤ tt) h.1)) in
    record {
      d = q;
      k = j;
      value = (refl, l.value.1);
      low = n;
      high = l.small;
      top = l.under;
      is = l_literal x q j (subst T (sym f) tt) h.0 u n l.small;
    }

pub logged : (x : Float) → fits binary64 x ≡ true → in_reach x ≡ true → Logged x
logged x f t = of_located (reach_says x t) f t (located x (subst T (sym f) tt) (l_range x t).0)

-- ---- V
module _ (d k : ℕ) (low : 2 ^ 52 ≤ d) (high : d < 2 ^ 53) where
  abbrev B : ℕ
  B = b_of (d * 2 ^ 10) 52

  y_from : 2 ^ 62 ≤ d * 2 ^ 10
  y_from = omega arith

  y_under : d * 2 ^ 10 < 2 ^ 63
  y_under = omega arith

  pub b_under : B < 2 ^ 52
  b_under = b_size (d * 2 ^ 10) 52

  -- from 1.000001 on V is 2 ^ 32 at least
  pub v_above : 4503604130970123 * 2 ^ 1022 ≤ d * 2 ^ k → 1022 * 2 ^ 52 + 2 ^ 32 ≤ k * 2 ^ 52 + B
  v_above h = go (dec_le k 1021) (dec_le 1023 k)
    where
      go : Dec (k ≤ 1021) → Dec (1023 ≤ k) → 1022 * 2 ^ 52 + 2 ^ 32 ≤ k * 2 ^ 52 + B
      go (yes l) g = absurd (not-le_of_lt (lt_of_lt_of_le (shl_lt 53 k high) (le_trans (pow_mono (let m : 53 + k ≤ 1074 = omega arith in m)) (lit≤ tt))) h)
      go (no l) (yes g) = omega arith
      go (no l) (no g) =
          let e : k ≡ 1022 = let a = lt_of_not-le l in let b = lt_of_not-le g in omega arith in
          let m : 4503604130970123 ≤ d = le_of_mul-le-mul_right (subst (λ (z : ℕ). 4503604130970123 * 2 ^ 1022 ≤ d * 2 ^ z) e h) (pow_pos 1022) in
          omega (arith, bits_above (d * 2 ^ 10) y_from y_under 20 32 (2 ^ 42) (omega arith) (lit≤ tt))

  -- below 0.999999 V is -2 ^ 32 at most
  pub v_below : d * 2 ^ k < 9007190247541737 * 2 ^ 1021 → k * 2 ^ 52 + B + 2 ^ 32 ≤ 1022 * 2 ^ 52
  v_below h = go (dec_le 1022 k) (dec_le k 1020)
    where
      go : Dec (1022 ≤ k) → Dec (k ≤ 1020) → k * 2 ^ 52 + B + 2 ^ 32 ≤ 1022 * 2 ^ 52
      go (yes l) g = absurd (not-le_of_lt h (le_trans (lit≤ tt) (mul-le-mul low (pow_mono l))))
      go (no l) (yes g) = omega (arith, b_under)
      go (no l) (no g) =
          let e : k ≡ 1021 = let a = lt_of_not-le l in let b = lt_of_not-le g in omega arith in
          let m : d < 9007190247541737 = lt_of_mul-lt-mul_right (2 ^ 1021) (subst (λ (z : ℕ). d * 2 ^ z < 9007190247541737 * 2 ^ 1021) e h) in
          let n : d * 2 ^ 10 ≤ 9007190247541736 * 2 ^ 10 = omega arith in
          omega (arith, bits_below (d * 2 ^ 10) y_from y_under (le_trans (mul-le-mul_right (2 ^ 63 + (2 ^ 43 + 1)) n) (lit≤ tt)))

  -- V is 0 at 1 alone
  pub v_zero : k * 2 ^ 52 + B ≡ 1022 * 2 ^ 52 → d * 2 ^ k ≡ 2 ^ 1074
  v_zero h = go (dec_le (2 ^ 52 + 1) d)
    where
      go : Dec (2 ^ 52 + 1 ≤ d) → d * 2 ^ k ≡ 2 ^ 1074
      go (yes l) =
          absurd (let a : 1 ≤ b_of (d * 2 ^ 10) 52 = bits_above (d * 2 ^ 10) y_from y_under 52 0 (2 ^ 10) (omega arith) (lit≤ tt) in omega (arith, b_under))
      go (no l) =
          let e : d ≡ 2 ^ 52 = let a = lt_of_not-le l in omega arith in
          let f : k ≡ 1022 = omega (arith, b_under) in
          λ i. e i * 2 ^ f i

-- ---- a bound of x as a bound of d * 2 ^ k
pub units_from : (N D U M : ℕ) → 0 < D → M * D ≤ N * 2 ^ 52 → N * 2 ^ 1074 ≡ U * D → M * 2 ^ 1022 ≤ U
units_from N D U M p h e =
    le_of_mul-le-mul_right (le_trans (le_of_eq (mul_right_comm M (2 ^ 1022) D)) (le_trans (mul-le-mul_right (2 ^ 1022) h) (le_of_eq (mul_assoc N (2 ^ 52) (2 ^ 1022) ∙ e)))) p

pub units_below : (N D U M : ℕ) → N * 2 ^ 53 < M * D → N * 2 ^ 1074 ≡ U * D → U < M * 2 ^ 1021
units_below N D U M h e =
    lt_of_mul-lt-mul_right D
    (lt_of_le_of_lt (le_of_eq (sym e ∙ sym (mul_assoc N (2 ^ 53) (2 ^ 1021))))
    (lt_of_lt_of_le (mul-lt-mul_of_pos_right h (pow_pos 1021)) (le_of_eq (mul_right_comm M D (2 ^ 1021)))))
