-- Numbers of a lent table as the code meets them: which are entries, and which entry each is. Assumes nothing.
use Rattle.std.specs.Prelude.{None}
use mathlib.Core.Path.{◌≡◌, refl, sym, ◌∙◌}
use mathlib.Core.Bool.{Bool, true, false, ◌&&◌, ◌||◌, true≢false}
use Prim.Native.Nat.{suc, ◌-◌, ◌<◌}
use native.Mathlib.Omega.{arith}
use lib.Dec.{leb, eqb}
use lib.IntN.{ℤ, pos, negsuc}
use lib.Signed.{mag}
use mir.Syntax.{w16, w32}
use mir.Val.{SFits, to_z, of_z}
use mir.Facts.{to_z-of_z}
use borrow.Author.Tests.{leb-true, eq-eqb, ne_eqb, eqb-true, eqb-false}
use Rattle.kbm.specs.Table.{is_unmapped, in_i16, is_entry, entry_of}

-- both tests hold
pub and_both : (x y : Bool) → (x && y) ≡ true → (x ≡ true) × (y ≡ true)
and_both true y e = (refl, e)
and_both false y e = absurd (true≢false (sym e))

-- where the first of two does not hold, the second does
pub or_second : (x y : Bool) → (x || y) ≡ true → x ≡ false → y ≡ true
or_second true y e n = absurd (true≢false n)
or_second false y e n = e

-- -32768..32767, by the magnitude
pub mag_i16 : (z : ℤ) → in_i16 z ≡ true → mag z < 32768
mag_i16 (pos a) h = omega (arith, leb-true a 32767 h)
mag_i16 (negsuc a) h = omega (arith, leb-true a 32767 (and_both (leb a 32767) true h).0)

-- the bits of a number of 32 tell whether it is the unmapped one
unmapped_bits : (z : ℤ) → SFits w32 z → eqb (of_z w32 z) 2147483648 ≡ is_unmapped z
unmapped_bits (pos n) f = ne_eqb n 2147483648 (λ e. omega (arith, f.sfits))
unmapped_bits (negsuc n) f = go (eqb n 2147483647) refl
  where
    go : (b : Bool) → eqb n 2147483647 ≡ b → eqb (4294967296 - suc n) 2147483648 ≡ eqb n 2147483647
    go true e = rw e (eq-eqb (4294967296 - suc n) 2147483648 (omega (arith, eqb-true n 2147483647 e)))
    go false e = rw e (ne_eqb (4294967296 - suc n) 2147483648 (λ z. eqb-false n 2147483647 e (omega (arith, f.sfits))))

module _ {z : ℤ} (f : SFits w32 z) where
  pub unmapped_yes : of_z w32 z ≡ 2147483648 → is_unmapped z ≡ true
  unmapped_yes e = sym (unmapped_bits z f) ∙ eq-eqb (of_z w32 z) 2147483648 e

  pub unmapped_no : (of_z w32 z ≡ 2147483648 → ⊥) → is_unmapped z ≡ false
  unmapped_no n = sym (unmapped_bits z f) ∙ ne_eqb (of_z w32 z) 2147483648 n

  pub entry_none : of_z w32 z ≡ 2147483648 → None ≡ entry_of z
  entry_none e = rw (unmapped_yes e)

  module _ (n : of_z w32 z ≡ 2147483648 → ⊥) (e : is_entry z ≡ true) where
    mapped_fits : SFits w16 z
    mapped_fits = record { sfits = mag_i16 z (or_second (is_unmapped z) (in_i16 z) e (unmapped_no n)) }

-- what `is_entry` answered of a number that was read
pub read_is : (z : ℤ) {t : Bool} → SFits w32 z → t ≡ is_entry (to_z w32 (of_z w32 z)) → t ≡ is_entry z
read_is z f told = rw (to_z-of_z f) at told
