-- What a table of roots says of an entry leaves one number. Assumes nothing.
use mathlib.Core.Path.{◌≡◌, refl, ap}
use mathlib.Core.Bool.{Bool, true, false}
use mathlib.Core.Logic.{◌⊎◌, inl, inr}
use Prim.Native.Nat.{ℕ, zero, suc, ◌+◌, ◌*◌, ◌^◌, ◌≤◌, ◌<◌}
use native.Mathlib.Nat.{le_refl, le_trans, lt_of_le_of_lt, lt_of_lt_of_le, mul-pos, mul-le-mul_right, mul-lt-mul_of_pos_right, le_of_mul-le-mul_right, lt_of_mul-lt-mul_right, pow-suc}
use native.Mathlib.Omega.{arith}
use lib.Dec.{lit<}
use lib.ListN.{get_or}
use Rattle.base.specs.Said.{pick}
use Rattle.log_roots.specs.Table.{roots}
use Rattle.log_roots.specs.Roots.{bit, low_of, high_of, Rooted}

-- L and H, the products of factors from below and from above: both are Z, a power of 2 ^ 100, where no bit is set; else H is above L
record Apart (L H Z : ℕ) : Type 0 where
  some : 0 < H
  power : 0 < Z
  under : L ≤ H
  either : (L ≡ Z) ⊎ (L < H)

apart_next : (M L H Z x : ℕ) (t : Bool) → 0 < M → Apart L H Z → Apart (L * pick t x M) (H * pick t (x + 2) M) (Z * M)
apart_next M L H Z x true pos a =
    let h = a.some in
    let u : L * x ≤ H * x = mul-le-mul_right x a.under in
    let v : L * x < H * (x + 2) = omega (arith, u, h) in
    record { some = omega (arith, v); power = mul-pos a.power pos; under = omega (arith, v); either = inr v }
apart_next M L H Z x false pos a = record {
  some = mul-pos a.some pos;
  power = mul-pos a.power pos;
  under = mul-le-mul_right M a.under;
  either = elim a.either [
    | inl e ↦ inl (ap (λ (y : ℕ). y * M) e)
    | inr h ↦ inr (mul-lt-mul_of_pos_right h pos)
  ];
}

apart : (b s n : ℕ) → Apart (low_of b s n) (high_of b s n) ((2 ^ 100) ^ n)
unfolding low_of high_of
apart b s zero = record { some = lit< tt; power = lit< tt; under = le_refl 1; either = inl refl }
apart b s (suc n) = rw (pow-suc (2 ^ 100) n) (apart_next (2 ^ 100) (low_of b s n) (high_of b s n) ((2 ^ 100) ^ n) (get_or roots (suc (s + n)) 0) (bit b (suc (s + n))) (lit< tt) (apart b s n))

-- of two numbers that both products allow, neither is above the other
not_above : (W L H Z q r : ℕ) → 0 < W → Apart L H Z → W ≤ q → H * W ≤ (q + 1) * Z → r * Z ≤ L * W → r ≤ q
not_above W L H Z q r pos a above high low = elim a.either [
  | inl e ↦ let h : r * Z ≤ W * Z = omega (arith, low, ap (λ (y : ℕ). y * W) e) in le_trans (le_of_mul-le-mul_right h a.power) above
  | inr h ↦
      let k : r * Z < (q + 1) * Z = lt_of_le_of_lt low (lt_of_lt_of_le (mul-lt-mul_of_pos_right h pos) high) in
      let j : r < q + 1 = lt_of_mul-lt-mul_right Z k in
      omega arith
]

pub rooted_one : (b s n cap q r : ℕ) → Rooted b s n cap q → Rooted b s n cap r → q ≡ r
rooted_one b s n cap q r u v =
    let a = apart b s n in
    let low : q ≤ r = not_above (2 ^ 62) _ _ _ r q (lit< tt) a v.above v.high u.low in
    let high : r ≤ q = not_above (2 ^ 62) _ _ _ q r (lit< tt) a u.above u.high v.low in
    omega arith
