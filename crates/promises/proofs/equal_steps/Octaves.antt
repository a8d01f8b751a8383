-- L of a ratio that is little above 1: its first bits are clear, so it is small. Assumes nothing.
use mathlib.Core.Path.{◌≡◌, refl, sym, ◌∙◌, ap, subst}
use mathlib.Core.Logic.{inl, inr}
use mathlib.Core.Bool.{true, false, true≢false}
use Prim.Native.Nat.{ℕ, zero, suc, ◌+◌, ◌-◌, ◌*◌, ◌/◌, ◌^◌, ◌≤◌, ◌<◌}
use native.Mathlib.Nat.{le_trans, le_of_eq, lt_of_lt_of_le, lt_of_le_of_lt, lt_of_not-le, not-le_of_lt, mul-one, one-mul, mul_comm, mul_assoc, mul-le-mul, mul-le-mul_right, le_of_mul-le-mul_right, eq-or-lt_of_le, mul-pos, le_of_lt}
use native.Mathlib.Decide.{dec_le}
use native.Mathlib.Omega.{arith}
use lib.Dec.{T, lit<, lit≤}
use lib.Pow.{pow_pos, pow-add, pow_mono, shl_lt}
use lib.IntN.{ℤ}
use lib.Ieee.{Float, fin, binary64, up, down, round, fits, le}
use lib.Ieee.Exact.{HasValue, round_exact}
use lib.Ieee.Nearest.{div_mono}
use lib.Ieee.Order.{round_mono}
use lib.Ieee.Positive.{positive, positive_of_value, values_of_le}
use lib.Ieee.Back.{round_whole}
use lib.Ieee.Fits.{down_pos}
use lib.Ieee.Scale.{round_val, round_under}
use borrow.Author.Tests.{lt-leb}
use Rattle.base.specs.Said.{gives}
use Rattle.floats.proofs.Between.{within_more}
use Rattle.floats.proofs.Ranges.{Within, within_fin}
use Rattle.floats.proofs.Sized.{Sized, sized}
use Rattle.rounding.proofs.Power.{ratio_finite}
use Rattle.explog.specs.Exp.{t_of}
use Rattle.explog.specs.Log.{b_of, y_of, squared, halved}
use Rattle.explog.specs.Rules.{L}
use Rattle.powers.specs.Inner.{top_bit}
use Rattle.explog.proofs.Reach.{log_sized}
use Rattle.explog.proofs.Sides.{Sided, upward, downward, side_of}
use Rattle.powers.proofs.Turns.{bit_set, bit_clear, bit_small}
use Rattle.explog.proofs.Values.{Logged, answered, logged}
use Rattle.promises.proofs.equal_steps.Small.{Small, Powered, round_small}

-- ---- B, where its first bits are clear
-- a smaller y has them clear too
module _ (y Y : ℕ) (h : y ≤ Y) where
  squared_le : (k : ℕ) → y_of y k ≤ y_of Y k → squared (y_of y k) ≤ squared (y_of Y k)
  squared_le k l = div_mono (y_of y k * y_of y k) (2 ^ 62) (y_of Y k * y_of Y k) (2 ^ 62) (pow_pos 62) (pow_pos 62) (mul-le-mul_right (2 ^ 62) (mul-le-mul l l))

  pub clear_below : (k : ℕ) → b_of Y k ≡ 0 → (b_of y k ≡ 0) × (y_of y k ≤ y_of Y k)
  unfolding b_of y_of
  clear_below zero e = (refl, h)
  clear_below (suc k) e = go (dec_le (2 ^ 63) (squared (y_of Y k))) (clear_below k)
    where
      go : Dec (2 ^ 63 ≤ squared (y_of Y k)) → (b_of Y k ≡ 0 → (b_of y k ≡ 0) × (y_of y k ≤ y_of Y k)) → (b_of y k * 2 + top_bit (squared (y_of y k)) ≡ 0) × (halved (squared (y_of y k)) ≤ halved (squared (y_of Y k)))
      go (yes q) f = let b = bit_set (squared (y_of Y k)) q in absurd (omega (arith, e, b))
      go (no q) f =
          let z : squared (y_of Y k) < 2 ^ 63 = lt_of_not-le q in
          let before : b_of Y k ≡ 0 = omega (arith, e) in
          let r = f before in
          let s = squared_le k r.1 in
          let c = bit_clear (squared (y_of y k)) (lt_of_le_of_lt s z) in
          (omega (arith, r.0, c), rw (lt-leb (2 ^ 63) (squared (y_of y k)) (lt_of_le_of_lt s z), lt-leb (2 ^ 63) (squared (y_of Y k)) z) s)

-- what comes after them is below their weight
clear_rest : (y i : ℕ) → b_of y i ≡ 0 → (k : ℕ) → i ≤ k → b_of y k < 2 ^ (k - i)
unfolding b_of
clear_rest y i e zero l = pow_pos (0 - i)
clear_rest y i e (suc k) l = elim (eq-or-lt_of_le l) [
  | inl q ↦ lt_of_le_of_lt (le_of_eq (ap (b_of y) (sym q) ∙ e)) (pow_pos (suc k - i))
  | inr q ↦ next (omega (arith, q)) (clear_rest y i e k)
]
  where
    next : i ≤ k → (i ≤ k → b_of y k < 2 ^ (k - i)) → b_of y k * 2 + top_bit (squared (y_of y k)) < 2 ^ (suc k - i)
    next m f =
        let z : suc k - i ≡ k - i + 1 = omega arith in
        let p : 2 ^ (suc k - i) ≡ 2 ^ (k - i) * 2 = ap (λ (n : ℕ). 2 ^ n) z ∙ pow-add 2 (k - i) 1 in
        let b = bit_small (squared (y_of y k)) in
        let r = f m in
        omega (arith, p, b, r)

-- ---- a ratio of at most D / 2^52, for D of 53 digits: its digits are at most D
module _ (r : Float) (g : Logged r) (D : ℕ) (size : D < 2 ^ 53) where
  high_value : HasValue (round binary64 false D (2 ^ 52)) false D (2 ^ 52)
  high_value = round_exact binary64 false D (2 ^ 52) D 1022 (pow_pos 52) size (lt_of_lt_of_le (shl_lt 53 1022 size) (lit≤ tt)) (ap (λ (z : ℕ). D * z) (pow-add 2 1022 52) ∙ sym (mul_assoc D (2 ^ 1022) (2 ^ 52)))

  digits : (P : ℕ) → 2 ^ 62 ≤ P → P ≤ D * 2 ^ 10 → r ≡ round binary64 false (P * 2 ^ 1024) (2 ^ 1086) → (g.k ≡ 1022) × (g.d ≤ D)
  digits P low high e = (
    where_k,
    le_of_mul-le-mul_right (le_trans (le_of_eq (ap (λ (z : ℕ). g.d * z) (pow-add 2 1022 52) ∙ sym (mul_assoc g.d (2 ^ 1022) (2 ^ 52)) ∙ ap (λ (z : ℕ). g.d * 2 ^ z * 2 ^ 52) (sym where_k))) above) (pow_pos 1074),
  )
    where
      D_some : 0 < D
      D_some = omega (arith, low, high)

      one : HasValue (round binary64 false 1 1) false 1 1
      one = round_whole binary64 false 1 (lit≤ tt)

      pr : T (positive r)
      pr = positive_of_value r (g.d * 2 ^ g.k) (2 ^ 1074) g.value (mul-pos (lt_of_lt_of_le (lit< tt) g.low) (pow_pos g.k))

      below : 2 ^ 1074 ≤ g.d * 2 ^ g.k
      below =
          let t : T (le (round binary64 false 1 1) r) = subst (λ (x : Float). T (le (round binary64 false 1 1) x)) (sym e) (round_mono binary64 1 1 (P * 2 ^ 1024) (2 ^ 1086) (lit< tt) (pow_pos 1086) (le_trans (le_of_eq (one-mul (2 ^ 1086))) (le_trans (le_trans (le_of_eq (pow-add 2 62 1024)) (mul-le-mul_right (2 ^ 1024) low)) (le_of_eq (sym (mul-one (P * 2 ^ 1024))))))) in
          le_trans (le_of_eq (sym (one-mul (2 ^ 1074)))) (le_trans (values_of_le (round binary64 false 1 1) r 1 1 (g.d * 2 ^ g.k) (2 ^ 1074) (positive_of_value (round binary64 false 1 1) 1 1 one (lit< tt)) pr one g.value t) (le_of_eq (mul-one (g.d * 2 ^ g.k))))

      above : g.d * 2 ^ g.k * 2 ^ 52 ≤ D * 2 ^ 1074
      above =
          let fine : P * 2 ^ 1024 * 2 ^ 52 ≤ D * 2 ^ 1086 = le_trans (le_of_eq (mul_assoc P (2 ^ 1024) (2 ^ 52))) (le_trans (mul-le-mul_right (2 ^ 1024 * 2 ^ 52) high) (le_of_eq (mul_assoc D (2 ^ 10) (2 ^ 1024 * 2 ^ 52) ∙ ap (λ (z : ℕ). D * z) (ap (λ (z : ℕ). 2 ^ 10 * z) (sym (pow-add 2 1024 52)) ∙ sym (pow-add 2 10 1076))))) in
          let t : T (le r (round binary64 false D (2 ^ 52))) = subst (λ (x : Float). T (le x (round binary64 false D (2 ^ 52)))) (sym e) (round_mono binary64 (P * 2 ^ 1024) (2 ^ 1086) D (2 ^ 52) (pow_pos 1086) (pow_pos 52) fine) in
          values_of_le r (round binary64 false D (2 ^ 52)) (g.d * 2 ^ g.k) (2 ^ 1074) D (2 ^ 52) pr (positive_of_value (round binary64 false D (2 ^ 52)) D (2 ^ 52) high_value D_some) g.value high_value t

      where_k : g.k ≡ 1022
      where_k = go (dec_le 1022 g.k) (dec_le g.k 1022)
        where
          go : Dec (1022 ≤ g.k) → Dec (g.k ≤ 1022) → g.k ≡ 1022
          go (yes l) (yes m) = omega (arith, l, m)
          go (no l) m =
              let n : 53 + g.k ≤ 1074 = let q = lt_of_not-le l in omega (arith, q) in
              absurd (not-le_of_lt (lt_of_lt_of_le (shl_lt 53 g.k g.high) (pow_mono n)) below)
          go (yes l) (no m) =
              let n : 1023 ≤ g.k = let q = lt_of_not-le m in omega (arith, q) in
              let lower : 2 ^ 52 * 2 ^ 1023 * 2 ^ 52 ≤ D * 2 ^ 1074 = le_trans (mul-le-mul_right (2 ^ 52) (mul-le-mul g.low (pow_mono n))) above in
              let upper : D * 2 ^ 1074 < 2 ^ 1127 = lt_of_lt_of_le (shl_lt 53 1074 size) (le_of_eq refl) in
              absurd (not-le_of_lt upper (le_trans (le_of_eq (pow-add 2 1075 52 ∙ ap (λ (z : ℕ). z * 2 ^ 52) (pow-add 2 52 1023))) lower))

-- ---- THE OCTAVES of E of a number in 0..2^-(j+1): in 0..2^-i, where L of D / 2^52 has its first i bits clear and T_j is at most D * 2^10
pub log_small : (i j D : ℕ) (r o : Float) → i ≤ 52 → fits binary64 r ≡ true → Powered j r → t_of j ≤ D * 2 ^ 10 → D < 2 ^ 53 → b_of (D * 2 ^ 10) i ≡ 0 → L r ≡ gives o → Small i o
log_small i j D r o s f p t size c h =
    let a = answered r o h in
    let g = logged r f a.0 in
    let w = digits r g D size p.power p.low (le_trans p.high t) p.is in
    let y = g.d * 2 ^ 10 in
    let clear = (clear_below y (D * 2 ^ 10) (mul-le-mul_right (2 ^ 10) w.1) i c).0 in
    go w.0 (clear_rest y i clear 52 s) (side_of r o g a.1)
  where
    go : {d k : ℕ} → k ≡ 1022 → b_of (d * 2 ^ 10) 52 < 2 ^ (52 - i) → Sided d k o → Small i o
    go {d} {k} e b (upward n q v is) =
        let same : n ≡ b_of (d * 2 ^ 10) 52 = omega (arith, e, v) in
        let z : 52 - i + i ≡ 52 = omega arith in
        subst (Small i) (sym is) (round_small i n (2 ^ 52) (le_trans s (lit≤ tt)) (pow_pos 52)
        (le_trans (mul-le-mul_right (2 ^ i) (le_trans (le_of_eq same) (le_of_lt b))) (le_of_eq (sym (pow-add 2 (52 - i) i) ∙ ap (λ (m : ℕ). 2 ^ m) z))))
    go {d} {k} e b (downward n p q v is) = absurd (omega (arith, e, v, p))

-- ---- L of a ratio from 1.0 on is not below zero
units_one : {b : ℕ} {x : Float} → Within 0 b x → (g : Logged x) → 2 ^ 1074 ≤ g.d * 2 ^ g.k
units_one (within_fin m e p l h) g =
    le_of_mul-le-mul_right
    (le_trans (le_of_eq (mul_comm (2 ^ 1074) (down e)))
    (le_trans (mul-le-mul_right (2 ^ 1074) (le_trans l (le_of_eq (mul-one (m * up e))))) (le_of_eq g.value.1)))
    (down_pos e)

-- a rounded number of whole size n: its sign is plus
pub data Up (n : ℕ) : Float → Type 0 where
  up_to : (m : ℕ) (e : ℤ) → m * up e ≤ n * down e → Up n (fin false m e)

plus_sign : {n : ℕ} (g : ℕ) {x : Float} → HasValue x false g (2 ^ 1074) → Sized n x → Up n x
plus_sign g v (sized true m e h) = absurd (true≢false v.0)
plus_sign g v (sized false m e h) = up_to m e h

round_up : (n N : ℕ) → N < 2 ^ 64 → Sized n (round binary64 false N (2 ^ 52)) → Up n (round binary64 false N (2 ^ 52))
round_up n N h s = plus_sign _ (round_val binary64 N (2 ^ 52) (round_under binary64 N (2 ^ 52) (ratio_finite N h))) s

pub log_up : (a : ℕ) (x o : Float) → a ≤ 900 → fits binary64 x ≡ true → Within 0 a x → L x ≡ gives o → Up a o
log_up a x o s f w h =
    let t = answered x o h in
    let g = logged x f t.0 in
    go (units_one w g) g.high (log_sized a x o s f (within_more (le_of_zero a) (le_of_eq refl) w) h) (side_of x o g t.1)
  where
    le_of_zero : (a : ℕ) → 0 ≤ a
    le_of_zero a = omega arith

    go : {d k : ℕ} → 2 ^ 1074 ≤ d * 2 ^ k → d < 2 ^ 53 → Sized a o → Sided d k o → Up a o
    go {d} {k} b q z (upward n l v is) = subst (Up a) (sym is) (round_up a n l (subst (Sized a) is z))
    go {d} {k} b q z (downward n p l v is) = by (dec_le 1022 k)
      where
        by : Dec (1022 ≤ k) → Up a o
        by (yes c) = absurd (omega (arith, v, p, c))
        by (no c) =
            let n : 53 + k ≤ 1074 = let r = lt_of_not-le c in omega (arith, r) in
            absurd (not-le_of_lt (lt_of_lt_of_le (shl_lt 53 k q) (pow_mono n)) b)
