-- An entry and q formal octaves: 64 bits hold the exact value. Assumes nothing.
use mathlib.Core.Path.{◌≡◌}
use Prim.Native.Nat.{◌*◌, ◌≤◌}
use native.Mathlib.Nat.{le_trans, mul-le-mul}
use native.Mathlib.Omega.{arith}
use lib.IntN.{ℤ, ◌+ℤ◌, ◌*ℤ◌}
use lib.Signed.{mag}
use mir.Syntax.{w16, w32, w64}
use mir.Val.{SFits, to_z, of_z}
use mir.Facts.{to_z-of_z}
use Rattle.base.proofs.Integers.{mag_add, mag_mul}
use Rattle.base.proofs.Machine.{widened}

-- x + y * z
module _ {x y z : ℤ} (fx : SFits w16 x) (fy : SFits w32 y) (fz : SFits w16 z) where
  bound : mag (y *ℤ z) ≤ 2147483648 * 32768
  bound = le_trans (mag_mul y z) (mul-le-mul fy.sfits fz.sfits)

  mul_fits : SFits w64 (y *ℤ z)
  mul_fits = record { sfits = omega (arith, bound) }

  sum_fits : SFits w64 (x +ℤ y *ℤ z)
  sum_fits = record { sfits = omega (arith, bound, mag_add x (y *ℤ z), fx.sfits) }

  abbrev wide16 : ℤ → ℤ
  wide16 v = to_z w64 (of_z w64 (to_z w16 (of_z w16 v)))

  abbrev wide32 : ℤ → ℤ
  wide32 v = to_z w64 (of_z w64 (to_z w32 (of_z w32 v)))

  pub times_fits : SFits w64 (wide32 y *ℤ wide16 z)
  times_fits = rw (widened w64 tt fy, widened w64 tt fz) mul_fits

  pub plus_fits : SFits w64 (wide16 x +ℤ to_z w64 (of_z w64 (wide32 y *ℤ wide16 z)))
  plus_fits = rw (widened w64 tt fx, widened w64 tt fy, widened w64 tt fz, to_z-of_z mul_fits) sum_fits

  pub plus_is : to_z w64 (of_z w64 (wide16 x +ℤ to_z w64 (of_z w64 (wide32 y *ℤ wide16 z)))) ≡ x +ℤ y *ℤ z
  plus_is = rw (widened w64 tt fx, widened w64 tt fy, widened w64 tt fz, to_z-of_z mul_fits) (to_z-of_z sum_fits)
