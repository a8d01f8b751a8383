-- What the calls on keys come to, as their code meets it. Assumes nothing.
use Rattle.std.specs.Prelude.{Result, Ok}
use Rattle.base.specs.declared.Refusal.{Refusal}
use mathlib.Core.Path.{◌≡◌, sym, ◌∙◌, ap, subst}
use mathlib.Core.Bool.{true, false}
use native.Mathlib.Omega.{arith}
use lib.Dec.{T}
use lib.IntN.{ℤ, pos, negsuc, nat_abs, ◌+ℤ◌}
use lib.Signed.{le_z, non_neg}
use mir.Syntax.{w8, w32}
use mir.Val.{Fits, SFits, to_z, of_z}
use mir.Facts.{to_z-of_z}
use borrow.Author.Tests.{leb-true}
use Rattle.base.specs.Integers.{held}
use Rattle.base.specs.Numbers.{key_out_of_range}
use Rattle.base.specs.Said.{gives, refuses, and_then, outcome}
use Rattle.key.specs.Keys.{key, key_after, midi_of}
use Rattle.key.specs.declared.PianoKey.{PianoKey}

-- ---- 0..127
module _ {k : PianoKey} (f : SFits w32 k.0) where
  pub midi_under : le_z (pos 0) (to_z w32 (of_z w32 k.0)) ≡ false → refuses key_out_of_range 0 ≡ midi_of k
  unfolding midi_of
  midi_under low = rw (rw (to_z-of_z f) at low)

  module _ (low : le_z (pos 0) (to_z w32 (of_z w32 k.0)) ≡ true) where
    above : le_z (pos 0) k.0 ≡ true
    above = rw (to_z-of_z f) at low

    pub midi_over : le_z (to_z w32 (of_z w32 k.0)) (pos 127) ≡ false → refuses key_out_of_range 0 ≡ midi_of k
    unfolding midi_of
    midi_over high = rw (above, rw (to_z-of_z f) at high)

    module _ (high : le_z (to_z w32 (of_z w32 k.0)) (pos 127) ≡ true) where
      below : le_z k.0 (pos 127) ≡ true
      below = rw (to_z-of_z f) at high

      small : (z : ℤ) → le_z (pos 0) z ≡ true → le_z z (pos 127) ≡ true → T (non_neg z) × Fits w8 (nat_abs z)
      small (pos n) l h = (tt, record { fits = omega (arith, leb-true n 127 h) })
      small (negsuc n) l h = absurd (subst T (sym l) tt)

      pub midi_cast : T (non_neg (to_z w32 (of_z w32 k.0))) × Fits w8 (nat_abs (to_z w32 (of_z w32 k.0)))
      midi_cast = rw (to_z-of_z f) (small k.0 above below)

      pub midi_here : gives (nat_abs (to_z w32 (of_z w32 k.0))) ≡ midi_of k
      unfolding midi_of
      midi_here = rw (to_z-of_z f, above, below)

-- ---- a sum that 32 bits hold, as a key: r is what `to_i32` answered, r' what a match made of it
pub key_after_law : (k : PianoKey) (steps : ℤ) {r r' : (Result ℤ Refusal)} → outcome r ≡ held (k.0 +ℤ steps) → r ≡ r' → and_then (outcome r') (λ z. gives (key z)) ≡ key_after k steps
key_after_law k steps told is = ap (λ s. and_then s (λ z. gives (key z))) (ap outcome (sym is) ∙ told)

-- the same where the match found z, as the machine holds it
pub key_made : (k : PianoKey) (steps : ℤ) {r : (Result ℤ Refusal)} (z : ℤ) → SFits w32 z → outcome r ≡ held (k.0 +ℤ steps) → r ≡ Ok z → gives (key (to_z w32 (of_z w32 z))) ≡ key_after k steps
key_made k steps z f told is = ap (λ (y : ℤ). gives (key y)) (to_z-of_z f) ∙ key_after_law k steps told is
