-- Signed numbers in the machine: what a test, a difference and a cast of them come to, over every width.
-- Assumes nothing.
use mathlib.Core.Path.{◌≡◌, ◌∙◌, ap}
use mathlib.Core.Bool.{true, false}
use Prim.Native.Nat.{ℕ, ◌+◌, ◌-◌, ◌/◌, ◌%◌, ◌^◌, ◌≤◌, ◌<◌}
use native.Mathlib.Omega.{arith}
use native.Mathlib.Nat.{lt_of_le_of_lt, div-le_self}
use lib.Dec.{T, ltb, leb}
use lib.IntN.{ℤ, pos, negsuc, nat_abs, ◌-ℤ◌}
use lib.Signed.{mag, lt_z, le_z, non_neg}
use mir.Syntax.{Width, w8, w16, w32, w64, w128}
use mir.Val.{Fits, SFits, to_z, of_z, bits, hbits}
use mir.Facts.{to_z-of_z, sfits_widen, Fits-nat_abs}
use Rattle.base.specs.Integers.{floor_div, floor_mod, in_i32, held}
use Rattle.base.specs.Numbers.{overflow}
use Rattle.base.specs.Said.{Said, gives, refuses}
use Rattle.base.proofs.Integers.{flip_is, keep_is, unflip, mag_in, div_neg, div_pos, mod_neg, mod_pos}

-- z and its magnitude are held alike
pub mag_fits : {w : Width} (z : ℤ) → SFits w z → SFits w (pos (mag z))
mag_fits z f = record { sfits = f.sfits }

-- where z is below 0: -1 - z fits, and is z's magnitude
module _ {w : Width} {z : ℤ} (f : SFits w z) (t : lt_z (to_z w (of_z w z)) (pos 0) ≡ true) where
  pub below_zero : lt_z z (pos 0) ≡ true
  below_zero = rw (to_z-of_z f) at t

  pub flip_fits : SFits w (negsuc 0 -ℤ to_z w (of_z w z))
  flip_fits = rw (to_z-of_z f, flip_is z below_zero) (mag_fits z f)

  pub flipped : to_z w (of_z w (negsuc 0 -ℤ to_z w (of_z w z))) ≡ pos (mag z)
  flipped = rw (to_z-of_z f, flip_is z below_zero) (to_z-of_z (mag_fits z f))

-- where it is not
module _ {w : Width} {z : ℤ} (f : SFits w z) (t : lt_z (to_z w (of_z w z)) (pos 0) ≡ false) where
  pub not_below_zero : lt_z z (pos 0) ≡ false
  not_below_zero = rw (to_z-of_z f) at t

  pub kept : to_z w (of_z w z) ≡ pos (mag z)
  kept = rw (to_z-of_z f) (keep_is z not_below_zero)

-- the magnitude as a number without a sign
pub mag_cast : {w : Width} {z y : ℤ} → SFits w z → y ≡ pos (mag z) → T (non_neg y) × Fits w (nat_abs y)
mag_cast {w} {z} f e = rw e (tt, Fits-nat_abs {w = w} {w' = w} {z = pos (mag z)} (narrower w) (mag_fits z f))
  where
    narrower : (w : Width) → T (ltb (hbits w) (bits w))
    narrower w8 = tt
    narrower w16 = tt
    narrower w32 = tt
    narrower w64 = tt
    narrower w128 = tt

-- m is the magnitude of z: division of z by s, from that of m
module _ {w : Width} {z : ℤ} (f : SFits w z) (m s : ℕ) (told : m ≡ mag (to_z w (of_z w z))) where
  is_mag : m ≡ mag z
  is_mag = rw (to_z-of_z f) at told

  quotient_lt : m / s < 2 ^ hbits w
  quotient_lt = lt_of_le_of_lt (div-le_self m s) (rw is_mag f.sfits)

  pub quotient_fits : SFits w (pos (m / s))
  quotient_fits = record { sfits = quotient_lt }

  quotient_is : to_z w (m / s) ≡ pos (m / s)
  quotient_is = to_z-of_z {w = w} {z = pos (m / s)} quotient_fits

  down_fits : SFits w (negsuc (m / s))
  down_fits = record { sfits = quotient_lt }

  pub flip_quotient_fits : SFits w (negsuc 0 -ℤ to_z w (m / s))
  flip_quotient_fits = rw (quotient_is, unflip) down_fits

  pub quotient_below : lt_z (to_z w (of_z w z)) (pos 0) ≡ true → to_z w (of_z w (negsuc 0 -ℤ to_z w (m / s))) ≡ floor_div z s
  quotient_below t = rw (quotient_is, unflip, to_z-of_z down_fits, is_mag) (div_neg z s (below_zero f t))

  pub quotient_above : lt_z (to_z w (of_z w z)) (pos 0) ≡ false → to_z w (m / s) ≡ floor_div z s
  quotient_above t = rw (quotient_is, is_mag) (div_pos z s (not_below_zero f t))

  pub remainder_below : lt_z (to_z w (of_z w z)) (pos 0) ≡ true → s - 1 - m % s ≡ floor_mod z s
  remainder_below t = rw is_mag (mod_neg z s (below_zero f t))

  pub remainder_above : lt_z (to_z w (of_z w z)) (pos 0) ≡ false → m % s ≡ floor_mod z s
  remainder_above t = rw is_mag (mod_pos z s (not_below_zero f t))

-- what a call answered of z, as it stands in the machine, is what it answers of z
pub told : {w w' : Width} (f : ℤ → ℤ) {z r : ℤ} → SFits w z → SFits w' r → r ≡ f (to_z w (of_z w z)) → to_z w' (of_z w' r) ≡ f z
told f fz fr e = to_z-of_z fr ∙ (rw (to_z-of_z fz) at e)

-- a number cast to a wider type is the number
module _ {w : Width} (w' : Width) {z : ℤ} (wider : T (leb (hbits w) (hbits w'))) (f : SFits w z) where
  pub widen_fits : SFits w' (to_z w (of_z w z))
  widen_fits = rw (to_z-of_z f) (sfits_widen {w = w} {w' = w'} wider f)

  pub widened : to_z w' (of_z w' (to_z w (of_z w z))) ≡ z
  widened = rw (to_z-of_z f) (to_z-of_z (sfits_widen {w = w} {w' = w'} wider f))

-- sums and differences of two numbers of 32 bits, in 64: `op` adds no more than the two magnitudes and 2
module _ (op : ℤ → ℤ → ℤ) (bound : (x y : ℤ) → mag (op x y) ≤ mag x + mag y + 2) {x y : ℤ} (fx : SFits w32 x) (fy : SFits w32 y) where
  held_64 : SFits w64 (op x y)
  held_64 = record { sfits = omega (arith, bound x y, fx.sfits, fy.sfits) }

  pub exact_fits : SFits w64 (op (to_z w64 (of_z w64 (to_z w32 (of_z w32 x)))) (to_z w64 (of_z w64 (to_z w32 (of_z w32 y)))))
  exact_fits = rw (widened w64 tt fx, widened w64 tt fy) held_64

  pub exact_is : to_z w64 (of_z w64 (op (to_z w64 (of_z w64 (to_z w32 (of_z w32 x)))) (to_z w64 (of_z w64 (to_z w32 (of_z w32 y)))))) ≡ op x y
  exact_is = rw (widened w64 tt fx, widened w64 tt fy) (to_z-of_z held_64)

-- a number of 64 bits, tested against both ends of 32
module _ {z : ℤ} (f : SFits w64 z) where
  pub held_under : le_z (negsuc 2147483647) (to_z w64 (of_z w64 z)) ≡ false → refuses overflow 0 ≡ held z
  unfolding held
  held_under low = rw (rw (to_z-of_z f) at low)

  module _ (low : le_z (negsuc 2147483647) (to_z w64 (of_z w64 z)) ≡ true) where
    above : le_z (negsuc 2147483647) z ≡ true
    above = rw (to_z-of_z f) at low

    pub held_over : le_z (to_z w64 (of_z w64 z)) (pos 2147483647) ≡ false → refuses overflow 0 ≡ held z
    unfolding held
    held_over high = rw (above, rw (to_z-of_z f) at high)

    module _ (high : le_z (to_z w64 (of_z w64 z)) (pos 2147483647) ≡ true) where
      within : in_i32 z ≡ true
      within = rw above (rw (to_z-of_z f) at high)

      fits_32 : SFits w32 z
      fits_32 = record { sfits = mag_in z within }

      pub narrow_fits : SFits w32 (to_z w64 (of_z w64 z))
      narrow_fits = rw (to_z-of_z f) fits_32

      pub held_here : gives (to_z w32 (of_z w32 (to_z w64 (of_z w64 z)))) ≡ held z
      unfolding held
      held_here = rw (to_z-of_z f, to_z-of_z fits_32, within)

-- `held` of an exact sum or difference d that a call answered of x and y
pub told_held : (op : ℤ → ℤ → ℤ) (x y : ℤ) {d : ℤ} {s : Said ℤ} → SFits w32 x → SFits w32 y → SFits w64 d → d ≡ op (to_z w32 (of_z w32 x)) (to_z w32 (of_z w32 y)) → s ≡ held (to_z w64 (of_z w64 d)) → s ≡ held (op x y)
told_held op x y fx fy fd e h =
    let d-is = rw (to_z-of_z fx, to_z-of_z fy) at e in
    let s-is = rw (to_z-of_z fd) at h in
    s-is ∙ ap held d-is
