-- The size and the sign of an i32, and the text of it. Assumes nothing.
use mathlib.Core.Path.{◌≡◌, refl, ap}
use mathlib.Core.Bool.{true, false}
use Prim.Native.Nat.{ℕ, ◌^◌, ◌≤◌}
use native.Mathlib.Omega.{arith}
use lib.IntN.{ℤ, pos, negsuc, nat_abs, ◌-ℤ◌}
use lib.Signed.{lt_z}
use mir.Syntax.{w32, w64}
use mir.Val.{SFits, to_z, of_z}
use mir.Facts.{to_z-of_z}
use borrow.Author.Tests.{le-ltb, ltb-true}
use Rattle.printing.specs.PrintText.{integer_text, whole_text}

pub wide_fits : (z : ℤ) → SFits w32 z → SFits w64 z
wide_fits z f = record { sfits = omega (arith, f.sfits) }

-- an i32 as an i64 is the same number
pub wide_same : (z : ℤ) → SFits w32 z → to_z w64 (of_z w64 (to_z w32 (of_z w32 z))) ≡ z
wide_same z f = rw (to_z-of_z f, to_z-of_z (wide_fits z f))

pub size_small : (z : ℤ) → SFits w32 z → nat_abs z ≤ 2 ^ 31
size_small (pos n) f = omega (arith, f.sfits)
size_small (negsuc n) f = omega (arith, f.sfits)

-- a negative number, turned
pub turned : (z : ℤ) → lt_z z (pos 0) ≡ true → pos 0 -ℤ z ≡ pos (nat_abs z)
turned (pos n) h = absurd (omega (arith, ltb-true n 0 h))
turned (negsuc n) h = ap pos (omega arith)

pub size_fits : (z : ℤ) → SFits w32 z → SFits w64 (pos (nat_abs z))
size_fits z f = record { sfits = omega (arith, size_small z f) }

-- a number that is not negative
pub kept : (z : ℤ) → lt_z z (pos 0) ≡ false → z ≡ pos (nat_abs z)
kept (pos n) h = refl
kept (negsuc n) h = let y : ◌≡◌ {A = ℕ} 0 1 = cc in absurd (omega arith)

pub whole_is : (z : ℤ) → integer_text (lt_z z (pos 0)) (nat_abs z) ≡ whole_text z
whole_is (pos n) = rw (le-ltb n 0 (omega arith))
whole_is (negsuc n) = refl
