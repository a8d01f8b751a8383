-- C LENDS A BACKWARDS RANGE BY ITS NUMBERS: telbijan_scale_degree_of and telbijan_scale_degree_from_middle say 16 of every key, over any
-- table that can be used, and leave what was there (document 02, W1, and W8: a read and a build alone refuse it). Assumes nothing.
use mathlib.Core.Path.{◌≡◌, refl, ◌∙◌, ap}
use mathlib.Core.Bool.{Bool, true, false, ◌&&◌}
use mathlib.Core.List.{List}
use Prim.Native.Nat.{ℕ}
use lib.IntN.{ℤ}
use lib.Signed.{le_z, lt_z, ◌≤ℤ◌, lt_z_yes, <ℤ-≤ℤ_trans, clash_ℤ}
use Rattle.base.specs.Numbers.{key_out_of_range}
use Rattle.base.specs.Said.{Said, refuses}
use Rattle.base.proofs.Order.{at_most}
use Rattle.kbm.specs.Degree.{scale_degree_of}
use Rattle.kbm.specs.Keys.{in_keys}
use Rattle.kbm.specs.Middle.{at_middle}
use Rattle.kbm.specs.Table.{is_table}
use Rattle.kbm.specs.declared.Kbm.{Kbm}
use Rattle.key.specs.Keys.{key}
use Rattle.telbijan_answers.specs.Interface.{result, kept}
use Rattle.telbijan_mappings.specs.Calls.{ScaleDegreeOf, ScaleDegreeFromMiddle}

module _ (k : Kbm) (map : List ℤ) (back : k.end.0 ≤ℤ k.start.0) where
  none_inside : (number : ℤ) → in_keys k (key number) ≡ false
  none_inside number = go (le_z k.start.0 number) refl (lt_z number k.end.0) refl
    where
      go : (a : Bool) → le_z k.start.0 number ≡ a → (b : Bool) → lt_z number k.end.0 ≡ b → (a && b) ≡ false
      go false p b q = refl
      go true p false q = refl
      go true p true q = clash_ℤ (<ℤ-≤ℤ_trans (lt_z_yes (rw q tt)) back) (at_most p)

  pub every_key_outside : is_table k.count map ≡ true → (number before : ℤ) (r : ℕ) (degree : ℤ) →
      ScaleDegreeOf map k number before r degree → (r ≡ key_out_of_range) × (degree ≡ before)
  unfolding scale_degree_of
  every_key_outside t number before r degree (is, stored) =
      let said : scale_degree_of k map (key number) ≡ refuses key_out_of_range 0 = rw (t, none_inside number) in
      (is ∙ ap result said, stored ∙ ap (λ (s : Said ℤ). kept s before) said)

-- counted from the middle key: a range is the same
pub every_key_outside_from_middle : (k : Kbm) (map : List ℤ) → k.end.0 ≤ℤ k.start.0 → is_table k.count map ≡ true →
    (number before : ℤ) (r : ℕ) (degree : ℤ) → ScaleDegreeFromMiddle map k number before r degree →
    (r ≡ key_out_of_range) × (degree ≡ before)
every_key_outside_from_middle k map back = every_key_outside (at_middle k) map back
