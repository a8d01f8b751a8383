-- From the core to the f64 that L answers: V's loss and the last rounding, together. Assumes nothing.
use mathlib.Core.Path.{◌≡◌, refl, sym, ap, subst}
use mathlib.Core.Bool.{Bool, true, false, cond}
use Prim.Native.Nat.{ℕ, zero, suc, ◌+◌, ◌-◌, ◌*◌, ◌^◌, ◌≤◌, ◌<◌}
use native.Mathlib.Nat.{le_trans, le_of_eq, le_of_lt, le_of_suc-le-suc, lt_of_lt_of_le, lt_of_not-le, not-le_of_lt, mul-pos, zero-mul}
use native.Mathlib.Nat.{zero-add, add-zero, mul-le-mul_right, mul-lt-mul_of_pos_right, le_of_mul-le-mul_right}
use native.Mathlib.Omega.{arith}
use lib.Dec.{T, lit≤, lit<}
use lib.Pow.{pow_pos, pow-lt}
use lib.IntN.{ℤ, pos, negsuc, ◌+ℤ◌}
use lib.Ieee.{Float, binary64, up, down, round}
use lib.Ieee.Fits.{down_pos}
use lib.Ieee.Exact.{HasValue, round_exact}
use lib.Ieee.Scale.{finite}
use lib.Ieee.Positive.{positive, value_pos}
use Rattle.floats.specs.Ranges.{in_reach}
use Rattle.floats.proofs.Ranges.{Within, within_fin, within_positive, reach_says}
use Rattle.floats.proofs.Value.{has_finite, same_value}
use Rattle.log_roots.proofs.Ratio.{Le, le_of, le_at}
use Rattle.explog.specs.Rules.{signed, octaves_of}
use Rattle.explog.proofs.Close.{not_zero}
use Rattle.explog.proofs.Diff.{Diff, add, moved}
use Rattle.accuracy.specs.Accuracy.{CoreL, AccurateL, LowL, HighL}
use Rattle.accuracy.proofs.Orders.{Lt, lt_of, lt_at, right_out, bare, to_at_least, to_below, of_at_least, of_below, signed_diff}
use Rattle.accuracy.proofs.Rounded.{Rounded, round_value, rounded}

-- ---- w / 2 ^ 52, rounded, with either sign
normal : (w : ℕ) → 0 < w → 2 ^ 52 * 2 ^ 52 ≤ w * 2 ^ 1074
normal w some = le_trans (lit≤ tt) (mul-le-mul_right (2 ^ 1074) some)

under : (w : ℕ) → w < 2 ^ 64 → w * 2 ^ 1074 < 2 ^ 2097 * 2 ^ 52
under w small = lt_of_lt_of_le (mul-lt-mul_of_pos_right small (pow_pos 1074)) (lit≤ tt)

zero_value : (s : Bool) → HasValue (round binary64 s 0 (2 ^ 52)) s 0 (2 ^ 52)
zero_value s = round_exact binary64 s 0 (2 ^ 52) 0 0 (pow_pos 52) (lit< tt) (lit< tt) refl

rounded_octaves : (s t : Bool) (w g h : ℕ) → w < 2 ^ 64 → HasValue (round binary64 s w (2 ^ 52)) t g h
    → Rounded (w * h) (g * 2 ^ 52) × (s ≡ t)
rounded_octaves s t zero g h l v =
    let e = same_value (round binary64 s 0 (2 ^ 52)) s t 0 (2 ^ 52) g h (zero_value s) v in
    (none (g * 2 ^ 52) (0 * h) e.0 (zero-mul h), e.1)
  where
    none : (G n : ℕ) → n ≡ G → n ≡ 0 → Rounded n G
    none G n e z = record { over_n = omega arith; over_g = omega arith; under_n = omega arith; under_g = omega arith }
rounded_octaves s t (suc w) g h l v =
    rounded (suc w) (2 ^ 52) (pow_pos 52) (normal (suc w) (omega arith)) (under (suc w) l) s t g h v

octaves_finite : (s : Bool) (w : ℕ) → w < 2 ^ 64 → T (finite (round binary64 s w (2 ^ 52)))
octaves_finite s zero l = has_finite (round binary64 s 0 (2 ^ 52)) s 0 (2 ^ 52) (zero_value s)
octaves_finite s (suc w) l =
    has_finite (round binary64 s (suc w) (2 ^ 52)) s _ (2 ^ 1074)
    (round_value (suc w) (2 ^ 52) (pow_pos 52) (normal (suc w) (omega arith)) (under (suc w) l) s)

-- ---- the exponents: V is K - S, w in size, and r = g / h is w / 2 ^ 52 rounded; all times h * 2 ^ 53
abbrev Over : ℕ → ℕ → Type 0
Over n G = 2 ^ 53 * G ≤ 2 ^ 53 * n + G

abbrev Under : ℕ → ℕ → Type 0
Under n G = 2 ^ 53 * n ≤ 2 ^ 53 * G + G

less : (t : Bool) (K S g h w : ℕ) → Over (w * h) (g * 2 ^ 52) → Under (w * h) (g * 2 ^ 52) → K + cond t w 0 ≡ S + cond t 0 w
    → (let u = g * cond t (2 ^ 53 + 1) (2 ^ 53 - 1) in
    cond t 0 u * 2 ^ 52 + S * (h * 2 ^ 53) ≤ K * (h * 2 ^ 53) + cond t u 0 * 2 ^ 52)
less false K S g h w a _ e = let f : K ≡ S + w = omega arith in rw f (omega arith)
less true K S g h w _ b e = let f : S ≡ K + w = omega arith in rw f (omega arith)

more : (t : Bool) (K S g h w : ℕ) → Over (w * h) (g * 2 ^ 52) → Under (w * h) (g * 2 ^ 52) → K + cond t w 0 ≡ S + cond t 0 w
    → (let u = g * cond t (2 ^ 53 - 1) (2 ^ 53 + 1) in
    (cond t u 0 + 0) * 2 ^ 52 + (K + 2) * (h * 2 ^ 53) ≤ S * (h * 2 ^ 53) + (cond t 0 u + 4 * h) * 2 ^ 52)
more false K S g h w _ b e = let f : K ≡ S + w = omega arith in rw f (omega arith)
more true K S g h w a _ e = let f : S ≡ K + w = omega arith in rw f (omega arith)

-- ---- x is a / c
module _ (K S g h w a c : ℕ) (t : Bool) (H : 0 < h) (r : Rounded (w * h) (g * 2 ^ 52)) (is : K + cond t w 0 ≡ S + cond t 0 w) where
  low_answer : Le (2 ^ 52) K c S a → LowL t a c g h
  low_answer f =
      let u = g * cond t (2 ^ 53 + 1) (2 ^ 53 - 1) in
      to_at_least (signed t u) (signed_diff t u)
      (le_at (2 ^ 52) _ _ _ _ (h * 2 ^ 53) _ _ (not_zero (2 ^ 52) (lit< tt))
      (less t K S g h w r.over_g r.under_g is) f)

  high_answer : Lt (2 ^ 52) S a (K + 2) c → HighL t a c g h
  high_answer f =
      let u = g * cond t (2 ^ 53 - 1) (2 ^ 53 + 1) in
      to_below (signed t u +ℤ pos (4 * h))
      (add (signed t u) (pos (4 * h)) (cond t 0 u) (cond t u 0) (4 * h) 0 (signed_diff t u) (sym (add-zero (4 * h))))
      (lt_at (2 ^ 52) _ _ _ _ (h * 2 ^ 53) _ _ (not_zero (h * 2 ^ 53) (mul-pos H (lit< tt)))
      (more t K S g h w r.over_g r.under_g is) f)

-- ---- V's size, where x = p / q is in reach
exponents : (N k l : ℕ) → Le N k 1 l 1 → k ≤ l
exponents N k l f =
    le_of_suc-le-suc (lt_of_not-le (λ (g : suc l ≤ k).
    not-le_of_lt (pow-lt g) (le_trans (le_of_eq (sym (bare N k))) (le_trans f.le (le_of_eq (bare N l))))))

module _ (N p q : ℕ) where
  not_above : (w : ℕ) → 0 < p → p ≤ 2 ^ 900 * q → Le N w q 0 p → w ≤ 900 * N
  not_above w some h f = let e = exponents N w (900 * N + 0) (right_out 900 (le_of f some (shape (2 ^ 900) p q h))) in omega arith
    where
      shape : (t p q : ℕ) → p ≤ t * q → 1 * p ≤ q * (1 * t)
      shape t p q h = omega arith

  not_below : (w : ℕ) → q ≤ p * 2 ^ 900 → Lt N w p 2 q → w ≤ 900 * N + 2
  not_below w h f =
      exponents N w (900 * N + 2) (right_out 900 (record { le = le_of_lt (lt_of f (lit< tt) (shape (2 ^ 900) p q h)).strictly }))
    where
      shape : (t p q : ℕ) → q ≤ p * t → 1 * q ≤ p * (1 * t)
      shape t p q h = omega arith

-- ---- V is K - S, and w in size: K where it is not below 0, else S. p / q and a / c are x
module _ (p q K S : ℕ) (some : 0 < p) (core_low : Le (2 ^ 52) K q S p) (core_high : Lt (2 ^ 52) S p (K + 2) q)
    (s : Bool) (w : ℕ) (small : w < 2 ^ 64) (is : K + cond s w 0 ≡ S + cond s 0 w)
    (t : Bool) (a c g h : ℕ) (C : 0 < c) (H : 0 < h) (e : a * q ≡ p * c) (v : HasValue (round binary64 s w (2 ^ 52)) t g h) where
  near : Rounded (w * h) (g * 2 ^ 52) × (s ≡ t)
  near = rounded_octaves s t w g h small v

  low_at : LowL t a c g h
  low_at =
      subst (λ (t : Bool). LowL t a c g h) near.1 (low_answer K S g h w a c s H near.0 is (le_of core_low some (omega (arith, e))))

  high_at : HighL t a c g h
  high_at =
      subst (λ (t : Bool). HighL t a c g h) near.1 (high_answer K S g h w a c s H near.0 is (lt_of core_high C (omega (arith, e))))

-- ---- L's answer is near log2 x whatever V is, if it has the core
reached : {x : Float} → Within 900 900 x → (p q : ℕ) → HasValue x false p q → (q ≤ p * 2 ^ 900) × (p ≤ 2 ^ 900 * q)
reached (within_fin m e some l h) p q v = (
  le_of_mul-le-mul_right {k = down e} (low_side (m * up e) (down e) (2 ^ 900) l v.1) (down_pos e),
  le_of_mul-le-mul_right {k = down e} (high_side (m * up e) (down e) (2 ^ 900) h v.1) (down_pos e),
)
  where
    low_side : (n d t : ℕ) → d ≤ n * t → n * q ≡ p * d → q * d ≤ p * t * d
    low_side n d t l e = omega (arith, mul-le-mul_right q l, ap (λ (z : ℕ). z * t) e)

    high_side : (n d t : ℕ) → n ≤ t * d → n * q ≡ p * d → p * d ≤ t * q * d
    high_side n d t l e = omega (arith, mul-le-mul_right q l, e)

module _ (x : Float) (m : ℕ) (e : ℤ) (reach : in_reach x ≡ true) (value : HasValue x false (m * up e) (down e)) where
  abbrev p : ℕ
  p = m * up e

  abbrev q : ℕ
  q = down e

  bounds : (q ≤ p * 2 ^ 900) × (p ≤ 2 ^ 900 * q)
  bounds = reached (reach_says x reach) p q value

  positive_x : T (positive x)
  positive_x = within_positive (reach_says x reach)

  some : 0 < p
  some = value_pos x p q positive_x (down_pos e) value

  same : (a c : ℕ) → HasValue x false a c → a * q ≡ p * c
  same a c v = (same_value x false false a c p q v value).0

  pub from_core_l : (v : ℤ) → CoreL m e v → AccurateL x (octaves_of v)
  unfolding octaves_of
  from_core_l (pos w) core =
      let lo : Le (2 ^ 52) w q 0 p = of_at_least (pos w) (sym (add-zero w)) core.low in
      let hi : Lt (2 ^ 52) 0 p (w + 2) q = of_below (pos w +ℤ pos 2) (sym (add-zero (w + 2))) core.high in
      let small : w < 2 ^ 64 = omega (arith, not_above (2 ^ 52) p q w some bounds.1 lo) in
      record {
        argument = positive_x;
        answer = octaves_finite false w small;
        low = λ t a c g h C H u y. low_at p q w 0 some lo hi false w small (omega arith) t a c g h C H (same a c u) y;
        high = λ t a c g h C H u y. high_at p q w 0 some lo hi false w small (omega arith) t a c g h C H (same a c u) y;
      }
  from_core_l (negsuc n) core =
      let w = suc n in
      let z = negsuc n +ℤ pos 2 in
      let two : Diff z 2 w = moved z (0 + 2) (w + 0) 2 w (omega arith) (add (negsuc n) (pos 2) 0 w 2 0 (zero-add w) refl) in
      let lo : Le (2 ^ 52) 0 q w p = of_at_least (negsuc n) (zero-add w) core.low in
      let hi : Lt (2 ^ 52) w p 2 q = of_below z two core.high in
      let small : w < 2 ^ 64 = omega (arith, not_below (2 ^ 52) p q w bounds.0 hi) in
      record {
        argument = positive_x;
        answer = octaves_finite true w small;
        low = λ t a c g h C H u y. low_at p q 0 w some lo hi true w small (omega arith) t a c g h C H (same a c u) y;
        high = λ t a c g h C H u y. high_at p q 0 w some lo hi true w small (omega arith) t a c g h C H (same a c u) y;
      }
