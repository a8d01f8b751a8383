-- Whole numbers: of two one is below the other, or not; with a sign, how large sums and products become (`mag` of -(a + 1) is a), and
-- division rounded down. Assumes nothing.
use mathlib.Core.Path.{◌≡◌, refl, sym, ap}
use mathlib.Core.Logic.{◌⊎◌, inl, inr}
use mathlib.Core.Bool.{Bool, true, false, true≢false}
use Prim.Native.Nat.{ℕ, zero, suc, ◌+◌, ◌-◌, ◌*◌, ◌/◌, ◌%◌, ◌≤◌, ◌<◌}
use native.Mathlib.Nat.{le_trans, le_refl, mul-le-mul, div-le_self, mod-lt}
use native.Mathlib.Omega.{arith}
use lib.Dec.{ltb, leb}
use lib.IntN.{ℤ, pos, negsuc, neg_ℤ, sub_ℕ, ◌+ℤ◌, ◌-ℤ◌, ◌*ℤ◌}
use lib.Signed.{mag, lt_z}
use borrow.Author.Tests.{ltb-true, ltb-false, le-ltb, leb-true}
use Rattle.base.specs.Integers.{floor_div, floor_mod, in_i32}

pub bool_cases : (t : Bool) → (t ≡ true) ⊎ (t ≡ false)
bool_cases true = inl refl
bool_cases false = inr refl

-- below a number, or not
pub split : (c n : ℕ) → (c < n) ⊎ (n ≤ c)
split c n = go (ltb c n) refl
  where
    go : (t : Bool) → ltb c n ≡ t → (c < n) ⊎ (n ≤ c)
    go true e = inl (ltb-true c n e)
    go false e = inr (ltb-false c n e)

mag_sub_ℕ : (a b : ℕ) → mag (sub_ℕ a b) ≤ a + b
mag_sub_ℕ a b = elim (bool_cases (ltb a b)) [ inl h ↦ simp h (omega arith) | inr h ↦ simp h (omega arith) ]

pub mag_add : (x y : ℤ) → mag (x +ℤ y) ≤ mag x + mag y + 1
mag_add (pos a) (pos b) = omega arith
mag_add (pos a) (negsuc b) = omega (arith, mag_sub_ℕ a (suc b))
mag_add (negsuc a) (pos b) = omega (arith, mag_sub_ℕ b (suc a))
mag_add (negsuc a) (negsuc b) = omega arith

mag_neg : (y : ℤ) → mag (neg_ℤ y) ≤ mag y + 1
mag_neg (pos zero) = omega arith
mag_neg (pos (suc n)) = omega arith
mag_neg (negsuc n) = omega arith

pub mag_sub : (x y : ℤ) → mag (x -ℤ y) ≤ mag x + mag y + 2
mag_sub x y = omega (arith, mag_add x (neg_ℤ y), mag_neg y)

mag_neg_pos : (n : ℕ) → mag (neg_ℤ (pos n)) ≤ n
mag_neg_pos zero = omega arith
mag_neg_pos (suc n) = omega arith

pub mag_mul : (x y : ℤ) → mag (x *ℤ y) ≤ suc (mag x) * suc (mag y)
mag_mul (pos a) (pos b) = mul-le-mul (omega arith) (omega arith)
mag_mul (pos a) (negsuc b) = le_trans (mag_neg_pos (a * suc b)) (mul-le-mul (omega arith) (omega arith))
mag_mul (negsuc a) (pos b) = le_trans (mag_neg_pos (suc a * b)) (mul-le-mul (omega arith) (omega arith))
mag_mul (negsuc a) (negsuc b) = le_refl (suc a * suc b)

-- -1 - d is the magnitude of a negative d, and d itself that of any other
pub flip_is : (d : ℤ) → lt_z d (pos 0) ≡ true → negsuc 0 -ℤ d ≡ pos (mag d)
flip_is (pos a) h = absurd (omega (arith, ltb-true a 0 h))
flip_is (negsuc a) h = simp (le-ltb (suc a) 1 (omega arith)) (ap pos (omega arith))

pub keep_is : (d : ℤ) → lt_z d (pos 0) ≡ false → d ≡ pos (mag d)
keep_is (pos a) h = refl
keep_is (negsuc a) h = absurd (true≢false h)

pub unflip : (m : ℕ) → negsuc 0 -ℤ pos m ≡ negsuc m
unflip zero = refl
unflip (suc m) = ap negsuc (omega arith)

-- a number of 32 bits, by its magnitude
pub mag_in : (z : ℤ) → in_i32 z ≡ true → mag z < 2147483648
mag_in (pos a) h = omega (arith, leb-true a 2147483647 h)
mag_in (negsuc a) h = elim (bool_cases (leb a 2147483647)) [ inl g ↦ omega (arith, leb-true a 2147483647 g) | inr g ↦ absurd (true≢false (sym (rw g at h))) ]

-- ---- division rounded down, by the sign
pub div_neg : (d : ℤ) (s : ℕ) → lt_z d (pos 0) ≡ true → negsuc (mag d / s) ≡ floor_div d s
div_neg (pos a) s h = absurd (omega (arith, ltb-true a 0 h))
div_neg (negsuc a) s h = refl

pub div_pos : (d : ℤ) (s : ℕ) → lt_z d (pos 0) ≡ false → pos (mag d / s) ≡ floor_div d s
div_pos (pos a) s h = refl
div_pos (negsuc a) s h = absurd (true≢false h)

pub mod_neg : (d : ℤ) (s : ℕ) → lt_z d (pos 0) ≡ true → s - 1 - mag d % s ≡ floor_mod d s
mod_neg (pos a) s h = absurd (omega (arith, ltb-true a 0 h))
mod_neg (negsuc a) s h = refl

pub mod_pos : (d : ℤ) (s : ℕ) → lt_z d (pos 0) ≡ false → mag d % s ≡ floor_mod d s
mod_pos (pos a) s h = refl
mod_pos (negsuc a) s h = absurd (true≢false h)

pub mag_floor : (d : ℤ) (s : ℕ) → mag (floor_div d s) ≤ mag d
mag_floor (pos a) s = div-le_self a s
mag_floor (negsuc a) s = div-le_self a s

pub floor_mod_lt : (d : ℤ) (s : ℕ) → 0 < s → floor_mod d s < s
floor_mod_lt (pos a) s h = mod-lt a h
floor_mod_lt (negsuc a) s h = omega (arith, mod-lt a h, h)
