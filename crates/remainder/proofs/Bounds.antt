-- How large remainders and euclidean quotients are. Assumes nothing.
use mathlib.Core.Path.{◌≡◌, refl, ap, ◌∙◌, subst}
use mathlib.Core.Bool.{Bool, true, false, cond}
use Prim.Native.Nat.{ℕ, ◌+◌, ◌-◌, ◌*◌, ◌%◌, ◌^◌, ◌≤◌, ◌<◌}
use native.Mathlib.Nat.{le_trans, le_of_eq, mul_comm, mul_assoc, mul_left_comm, mul-pos, mul-le-mul, mod-le, zero-mul}
use native.Mathlib.Omega.{arith}
use lib.Dec.{ltb}
use lib.IntN.{ℤ, pos}
use borrow.Author.Tests.{ne_eqb}
use lib.Ieee.{Float, fin, binary64, up, down, round, sum, add, sub, div, rem, lt, of_bits}
use lib.Ieee.Fits.{down_pos}
use Rattle.base.specs.Said.{pick}
use Rattle.floats.specs.Floats.{abs, trunc, zero_f, one_f}
use Rattle.floats.proofs.Order.{Zero, Negative, nfin, negative, ninf}
use Rattle.floats.proofs.Sized.{Sized, sized, size_of, sized_more, times_le, round_sized, add_sized, sub_sized, div_sized_by, trunc_sized}
use Rattle.remainder.specs.Euclid.{rem_euclid, div_euclid}

-- |y| is at least 1 / k
pub data Apart (k : ℕ) : Float → Type 0 where
  apart : (s : Bool) (m : ℕ) (e : ℤ) → down e ≤ m * up e * k → Apart k (fin s m e)

-- a number below zero and one above: the sum is no larger than the larger of the two
gap_sized : (n m i : ℕ) (e d : ℤ) → n ≤ 2 ^ 53 → m * up e ≤ n * down e → i * up d ≤ n * down d → Sized n (add binary64 (fin true m e) (fin false i d))
unfolding add sum
gap_sized n m i e d h l r =
    let a = m * up e * down d in
    let b = i * up d * down e in
    let c = down e * down d in
    let p : 0 < c = mul-pos (down_pos e) (down_pos d) in
    let la : a ≤ n * c = times_le (m * up e) n (down e) (down d) l in
    let lb : b ≤ n * c = le_trans (times_le (i * up d) n (down d) (down e) r) (le_of_eq (ap (λ (z : ℕ). n * z) (mul_comm (down d) (down e)))) in
    go (ltb a b) (ltb b a) a b c p la lb
  where
    go : (x y : Bool) (a b c : ℕ) → 0 < c → a ≤ n * c → b ≤ n * c → Sized n (cond x (round binary64 false (b - a) c) (round binary64 y (a - b) c))
    go true y a b c p la lb = round_sized n false (b - a) c h p (omega arith)
    go false y a b c p la lb = round_sized n y (a - b) c h p (omega arith)

some : (m k : ℕ) (e : ℤ) → down e ≤ m * up e * k → m ≡ 0 → ⊥
some m k e h z =
    let g : down e ≤ 0 * up e * k = subst (λ (i : ℕ). down e ≤ i * up e * k) z h in
    let p = down_pos e in
    let q : 0 * up e * k ≡ 0 = ap (λ (i : ℕ). i * k) (zero-mul (up e)) ∙ zero-mul k in
    omega arith

rem_sized : {n k : ℕ} {x y : Float} → n ≤ 2 ^ 53 → Sized n x → Apart k y → Sized n (rem binary64 x y)
unfolding rem
rem_sized {n} {k} h (sized s m e l) (apart t i d a) =
    rw (ne_eqb i 0 (some i k d a))
    (round_sized n s (m * up e * down d % (i * up d * down e)) (down e * down d) h (mul-pos (down_pos e) (down_pos d))
    (le_trans (mod-le (m * up e * down d) (i * up d * down e)) (times_le (m * up e) n (down e) (down d) l)))

over_apart : (a b c d n k : ℕ) → a ≤ n * b → c ≤ d * k → a * c ≤ n * k * (d * b)
over_apart a b c d n k h l = le_trans (mul-le-mul h l) (le_of_eq (simp (mul_assoc, mul_comm, mul_left_comm)))

div_sized : {n k : ℕ} {x y : Float} → n * k ≤ 2 ^ 53 → Sized n x → Apart k y → Sized (n * k) (div binary64 x y)
div_sized {n} {k} h (sized s m e l) (apart t i d a) =
    div_sized_by (n * k) s t m i e d h (some i k d a) (over_apart (m * up e) (down e) (down d) (i * up d) n k l a)

-- ---- rem_euclid is no larger than both, div_euclid one more than the quotient at most
abs_sized : {n : ℕ} {x : Float} → Sized n x → Sized n (abs x)
unfolding abs
abs_sized (sized s m e l) = sized false m e l

moved_up : {n : ℕ} {r b : Float} → n ≤ 2 ^ 53 → Negative r → Sized n r → Sized n b → Sized n (add binary64 r (abs b))
unfolding abs
moved_up {n} h (nfin m e p) v (sized t i d r) = gap_sized n m i e d h (size_of v) r
moved_up {n = n} {b = b} h ninf v _ = elim v [ ]

pub rem_euclid_sized : {n k : ℕ} (x y : Float) → n ≤ 2 ^ 53 → Sized n x → Sized n y → Apart k y → Sized n (rem_euclid x y)
unfolding of_bits
rem_euclid_sized {n} x y h p q a = go (lt (rem binary64 x y) Zero) refl
  where
    go : (b : Bool) → lt (rem binary64 x y) Zero ≡ b → Sized n (pick b (add binary64 (rem binary64 x y) (abs y)) (rem binary64 x y))
    go true e = moved_up h (negative (rem binary64 x y) e) (rem_sized h p a) q
    go false e = rem_sized h p a

one_sized : Sized 1 one_f
unfolding of_bits
one_sized = sized false 1 (pos 0) (omega arith)

pub div_euclid_sized : {n k : ℕ} (x y : Float) → n * k + 1 ≤ 2 ^ 53 → Sized n x → Apart k y → Sized (n * k + 1) (div_euclid x y)
div_euclid_sized {n} {k} x y h p a = go (lt (rem binary64 x y) zero_f) (lt zero_f y)
  where
    q : Sized (n * k) (trunc (div binary64 x y))
    q = trunc_sized (omega arith) (div_sized (omega arith) p a)

    go : (b c : Bool) → Sized (n * k + 1) (pick b (pick c (sub binary64 (trunc (div binary64 x y)) one_f) (add binary64 (trunc (div binary64 x y)) one_f)) (trunc (div binary64 x y)))
    go true true = sub_sized h q one_sized
    go true false = add_sized h q one_sized
    go false c = sized_more (omega arith) q
