-- The range of a mapping, first..last, as an order on keys: the end is the key after the last. Assumes nothing.
use mathlib.Core.Path.{◌≡◌, refl, sym, ◌∙◌}
use mathlib.Core.Bool.{Bool, true, false, ◌&&◌}
use mathlib.Core.Logic.{◌⊎◌, inl, inr}
use Prim.Native.Nat.{ℕ}
use native.Mathlib.Omega.{arith}
use lib.Signed.{le_z, ◌≤ℤ◌, ◌<ℤ◌, le_z_yes, clash_ℤ}
use Rattle.base.proofs.Integers.{bool_cases}
use Rattle.base.proofs.Order.{below_end, passed, below}
use Rattle.floats.proofs.Ranges.{and_true}
use Rattle.kbm.specs.Keys.{in_keys}
use Rattle.kbm.specs.declared.Kbm.{Kbm}
use Rattle.key.specs.declared.PianoKey.{PianoKey}
use Rattle.kbm_write.specs.Export.{last_key_of}

module _ (kbm : Kbm) (key : PianoKey) where
  range_is : in_keys kbm key ≡ le_z kbm.start.0 key.0 && le_z key.0 (last_key_of kbm)
  range_is = rw (below_end key.0 kbm.end.0)

  -- inside is from the first key to the last
  pub inside : in_keys kbm key ≡ true → (kbm.start.0 ≤ℤ key.0) × (key.0 ≤ℤ last_key_of kbm)
  inside w = let t = and_true (le_z kbm.start.0 key.0) (le_z key.0 (last_key_of kbm)) (sym range_is ∙ w) in (le_z_yes t.0, le_z_yes t.1)

  pub inside_back : kbm.start.0 ≤ℤ key.0 → key.0 ≤ℤ last_key_of kbm → in_keys kbm key ≡ true
  inside_back a b = range_is ∙ rw (passed a, passed b)

  -- outside is below the first key or above the last
  pub outside : in_keys kbm key ≡ false → (key.0 <ℤ kbm.start.0) ⊎ (last_key_of kbm <ℤ key.0)
  outside w = go (le_z kbm.start.0 key.0) (le_z key.0 (last_key_of kbm)) refl refl (sym range_is ∙ w)
    where
      go : (x y : Bool) → le_z kbm.start.0 key.0 ≡ x → le_z key.0 (last_key_of kbm) ≡ y → x && y ≡ false → (key.0 <ℤ kbm.start.0) ⊎ (last_key_of kbm <ℤ key.0)
      go false y e f n = inl (below e)
      go true false e f n = inr (below f)
      go true true e f n = let z : ◌≡◌ {A = ℕ} 0 1 = cc in absurd (omega arith)

  pub outside_back : (key.0 <ℤ kbm.start.0) ⊎ (last_key_of kbm <ℤ key.0) → in_keys kbm key ≡ false
  outside_back o = go (bool_cases (in_keys kbm key)) o
    where
      go : (in_keys kbm key ≡ true) ⊎ (in_keys kbm key ≡ false) → (key.0 <ℤ kbm.start.0) ⊎ (last_key_of kbm <ℤ key.0) → in_keys kbm key ≡ false
      go (inr n) q = n
      go (inl w) (inl l) = clash_ℤ l (inside w).0
      go (inl w) (inr h) = clash_ℤ h (inside w).1
