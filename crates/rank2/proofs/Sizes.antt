-- How large products and remainders are. Assumes nothing.
use mathlib.Core.Path.{◌≡◌, refl, ap, subst}
use mathlib.Core.Bool.{Bool, true, false, cond, ◌&&◌}
use Prim.Native.Nat.{ℕ, ◌-◌, ◌*◌, ◌%◌, ◌^◌, ◌≤◌, ◌<◌}
use native.Mathlib.Nat.{le_trans, le_of_eq, le_of_lt, mul_comm, mul_assoc, mul_left_comm, mul-pos, mul-le-mul, mul-le-mul_right, mod-lt, zero-mul}
use native.Mathlib.Omega.{arith}
use lib.Dec.{T, ltb, lit≤}
use lib.IntN.{ℤ, pos}
use borrow.Author.Tests.{ne_eqb}
use lib.Ieee.{Float, fin, binary64, up, down, round, sum, add, mul, rem, lt, le, eq, neg, unlike, of_bits}
use lib.Ieee.Fits.{down_pos, up_pos}
use Rattle.base.specs.Said.{pick}
use Rattle.floats.specs.Floats.{abs, zero_f}
use Rattle.floats.proofs.Between.{range_sized, sized_range}
use Rattle.floats.proofs.Order.{Zero, Negative, nfin, negative, ninf}
use Rattle.floats.proofs.Sized.{Sized, sized, size_of, times_le, round_sized}
use Rattle.remainder.specs.Euclid.{rem_euclid}
use Rattle.scl.specs.Items.{is_usable_cents}

-- ---- products
product_le : (a b c d n k : ℕ) → a ≤ n * c → b ≤ k * d → a * b ≤ n * k * (c * d)
product_le a b c d n k h l = le_trans (mul-le-mul h l) (le_of_eq (simp (mul_assoc, mul_comm, mul_left_comm)))

pub mul_sized : {n k : ℕ} {x y : Float} → n * k ≤ 2 ^ 53 → Sized n x → Sized k y → Sized (n * k) (mul binary64 x y)
unfolding mul
mul_sized {n} {k} h (sized s m e l) (sized t i d r) =
    round_sized (n * k) (unlike s t) (m * up e * (i * up d)) (down e * down d) h (mul-pos (down_pos e) (down_pos d)) (product_le (m * up e) (i * up d) (down e) (down d) n k l r)

-- ---- cents
pub usable_sized : (c : Float) → is_usable_cents c ≡ true → Sized (75 * 2 ^ 9) c
unfolding of_bits neg
usable_sized c h = range_sized 75 9 c h

both_true : (a b : Bool) → T a → T b → (a && b) ≡ true
both_true true true x y = refl
both_true true false x y = absurd y
both_true false b x y = absurd x

pub sized_usable : (c : Float) → Sized (75 * 2 ^ 9) c → is_usable_cents c ≡ true
unfolding of_bits neg
sized_usable c h = let t = sized_range 75 9 (lib.Dec.lit< tt) h in both_true (le (fin true 75 (pos 9)) c) (le c (fin false 75 (pos 9))) t.0 t.1

-- ---- a remainder is no larger than what it is by
zero_level : (s : Bool) → (lib.Dec.eqb 0 0 && (mathlib.Core.Bool.◌||◌ (mathlib.Core.Bool.beq s false) (lib.Dec.eqb 0 0))) ≡ false → ⊥
zero_level true q = subst T q tt
zero_level false q = subst T q tt

pub not_zero : (s : Bool) (m : ℕ) (e : ℤ) → eq (fin s m e) Zero ≡ false → m ≡ 0 → ⊥
unfolding eq
not_zero s m e h z =
    let x : m * up e * 1 ≡ 0 = omega (arith, ap (λ (k : ℕ). k * up e) z, zero-mul (up e)) in
    let y : 0 * 1 * down e ≡ 0 = omega (arith, zero-mul (down e)) in
    zero_level s (rw (x, y) at h)

rem_under : {n k : ℕ} {x y : Float} → n ≤ 2 ^ 53 → Sized k x → Sized n y → eq y Zero ≡ false → Sized n (rem binary64 x y)
unfolding rem
rem_under {n} h (sized s m e l) (sized t i d r) q =
    let z = not_zero t i d q in
    let p : 0 < i * up d * down e = mul-pos (mul-pos (native.Mathlib.Nat.pos_of_ne-zero z) (up_pos d)) (down_pos e) in
    rw (ne_eqb i 0 z)
    (round_sized n s (m * up e * down d % (i * up d * down e)) (down e * down d) h (mul-pos (down_pos e) (down_pos d))
    (le_trans (le_of_lt (mod-lt (m * up e * down d) p)) (le_trans (times_le (i * up d) n (down d) (down e) r) (le_of_eq (ap (λ (v : ℕ). n * v) (mul_comm (down d) (down e)))))))

-- a number below zero and one above: the sum is no larger than the larger of the two
gap : (n m i : ℕ) (e d : ℤ) → n ≤ 2 ^ 53 → m * up e ≤ n * down e → i * up d ≤ n * down d → Sized n (add binary64 (fin true m e) (fin false i d))
unfolding add sum
gap n m i e d h l r =
    let a = m * up e * down d in
    let b = i * up d * down e in
    let c = down e * down d in
    go (ltb a b) (ltb b a) a b c (mul-pos (down_pos e) (down_pos d)) (times_le (m * up e) n (down e) (down d) l) (le_trans (times_le (i * up d) n (down d) (down e) r) (le_of_eq (ap (λ (z : ℕ). n * z) (mul_comm (down d) (down e)))))
  where
    go : (x y : Bool) (a b c : ℕ) → 0 < c → a ≤ n * c → b ≤ n * c → Sized n (cond x (round binary64 false (b - a) c) (round binary64 y (a - b) c))
    go true y a b c p la lb = round_sized n false (b - a) c h p (omega arith)
    go false y a b c p la lb = round_sized n y (a - b) c h p (omega arith)

moved : {n : ℕ} {r y : Float} → n ≤ 2 ^ 53 → Negative r → Sized n r → Sized n y → Sized n (add binary64 r (abs y))
unfolding abs
moved {n} h (nfin m e p) v (sized t i d r) = gap n m i e d h (size_of v) r
moved {n = n} {y = y} h ninf v _ = elim v [ ]

pub bounded_sized : {n k : ℕ} (x y : Float) → n ≤ 2 ^ 53 → Sized k x → Sized n y → eq y zero_f ≡ false → Sized n (rem_euclid x y)
unfolding of_bits
bounded_sized {n} x y h p q z = go (lt (rem binary64 x y) Zero) refl
  where
    go : (b : Bool) → lt (rem binary64 x y) Zero ≡ b → Sized n (pick b (add binary64 (rem binary64 x y) (abs y)) (rem binary64 x y))
    go true e = moved h (negative (rem binary64 x y) e) (rem_under h p q z) q
    go false e = rem_under h p q z
