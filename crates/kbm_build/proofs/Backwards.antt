-- A BUILD SAYS 25 exactly for a backwards range, where neither 10 nor 15 is to be said, however many entries there are (document 02, W8).
-- Assumes nothing.
use Rattle.std.specs.Prelude.{Some, None, Option}
use mathlib.Core.Path.{◌≡◌, refl, ◌∙◌, ap}
use mathlib.Core.Bool.{Bool, true, false}
use mathlib.Core.List.{List}
use mathlib.Core.Logic.{◌↔◌, inl, inr}
use native.Mathlib.Omega.{arith}
use lib.Dec.{leb, ltb}
use lib.IntN.{ℤ, pos}
use lib.Signed.{◌≤ℤ◌}
use borrow.Author.Tests.{le-ltb, ltb-false}
use Rattle.base.specs.Numbers.{unusable, too_large, formal_octave_missing, backwards_range}
use Rattle.base.specs.Said.{gives, refuses, pick}
use Rattle.base.proofs.Order.{at_most, passed}
use Rattle.base.proofs.Said.{no_refusal, same_refuses}
use Rattle.kbm_build.specs.Builder.{is_ready, is_backwards, kbm_with, kbm_of, built, built_mapping, OctaveIs, BackwardsBuild}
use Rattle.kbm_build.specs.declared.KbmBuilder.{KbmBuilder}

module _ (b : KbmBuilder) (map : List ℤ) where
  -- ---- what is said of the range
  range_backwards : (z : ℤ) → kbm_with b z ≡ refuses backwards_range 0 → b.end.0 ≤ℤ b.start.0
  range_backwards z = go (is_backwards b.start b.end) refl (leb b.count 65535)
    where
      go : (back : Bool) → is_backwards b.start b.end ≡ back → (small : Bool) →
          pick back (refuses backwards_range 0) (pick small (gives (built_mapping b z)) (refuses too_large 0)) ≡ refuses backwards_range 0 →
          b.end.0 ≤ℤ b.start.0
      go true f small e = at_most f
      go false f true e = no_refusal e
      go false f false e = absurd (omega (arith, (same_refuses e).0))

  backwards_with : (z : ℤ) → b.end.0 ≤ℤ b.start.0 → kbm_with b z ≡ refuses backwards_range 0
  backwards_with z h = rw (passed h)

  -- ---- after the formal octave
  octave_backwards : (o : (Option ℤ)) → b.octave ≡ o → kbm_of b o ≡ refuses backwards_range 0 →
      ((z : ℤ) × OctaveIs b z) × (b.end.0 ≤ℤ b.start.0)
  octave_backwards (Some z) is e = ((z, inl is), range_backwards z e)
  octave_backwards None is e = go (ltb 0 b.count) refl e
    where
      go : (t : Bool) → ltb 0 b.count ≡ t → pick t (refuses formal_octave_missing 0) (kbm_with b (pos 0)) ≡ refuses backwards_range 0 →
          ((z : ℤ) × OctaveIs b z) × (b.end.0 ≤ℤ b.start.0)
      go true t f = absurd (omega (arith, (same_refuses f).0))
      go false t f = ((pos 0, inr (is, (omega (arith, ltb-false 0 b.count t), refl))), range_backwards (pos 0) f)

  backwards_octave : (z : ℤ) × OctaveIs b z → b.end.0 ≤ℤ b.start.0 → kbm_of b b.octave ≡ refuses backwards_range 0
  backwards_octave (z, inl is) h = ap (kbm_of b) is ∙ backwards_with z h
  backwards_octave (z, inr (is, (none, zero))) h =
      ap (kbm_of b) is ∙ rw (le-ltb 0 b.count (omega (arith, none))) (backwards_with (pos 0) h)

  -- ---- THE THEOREM
  pub build_backwards : (built b map ≡ refuses backwards_range 0) ↔ BackwardsBuild b map
  unfolding built
  build_backwards = (forth (is_ready b map) refl, back)
    where
      forth : (t : Bool) → is_ready b map ≡ t → pick t (kbm_of b b.octave) (refuses unusable 0) ≡ refuses backwards_range 0 →
          BackwardsBuild b map
      forth true r e = let o = octave_backwards b.octave refl e in record { ready = r; octave = o.0; range = o.1 }
      forth false r e = absurd (omega (arith, (same_refuses e).0))

      back : BackwardsBuild b map → pick (is_ready b map) (kbm_of b b.octave) (refuses unusable 0) ≡ refuses backwards_range 0
      back w = rw w.ready (backwards_octave w.octave w.range)
