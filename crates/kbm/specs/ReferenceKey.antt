-- What the reference key has, counted from the middle key: document 02, W1, as a relation. "The range doesn't limit the reference key";
-- "for the reference key 11 for d, 19, 11". That the code answers it is `reference_has` of proofs/Middle.antt. Assumes nothing.
use Rattle.std.specs.Prelude.{◌≡◌, true, false, List, ℤ, ◌+ℤ◌, ◌-ℤ◌, ◌*ℤ◌, length, Some, None, Option}
use Rattle.base.specs.Integers.{in_i32}
use Rattle.base.specs.Numbers.{overflow, reference_unmapped}
use Rattle.base.specs.Said.{Said, gives, refuses}
use Rattle.kbm.specs.Keys.{Reaches}
use Rattle.kbm.specs.Middle.{middle_of}
use Rattle.kbm.specs.declared.Kbm.{Kbm}

-- d: the keys from the middle key up to the reference key
abbrev pub reference_distance : Kbm → ℤ
reference_distance kbm = kbm.root.reference.0 -ℤ middle_of kbm.root

-- what is said of it, case by case in 02's order
pub data ReferenceHas (kbm : Kbm) (es : List (Option ℤ)) (s : Said ℤ) : Type 0 where
  far : in_i32 (reference_distance kbm) ≡ false → s ≡ refuses overflow 0 → ReferenceHas kbm es s
  plain : in_i32 (reference_distance kbm) ≡ true → length es ≡ 0 → s ≡ gives (reference_distance kbm) → ReferenceHas kbm es s
  none : in_i32 (reference_distance kbm) ≡ true → (q : ℤ) → Reaches es (reference_distance kbm) q None →
      s ≡ refuses reference_unmapped 0 → ReferenceHas kbm es s
  passed : in_i32 (reference_distance kbm) ≡ true → (q e : ℤ) → Reaches es (reference_distance kbm) q (Some e) →
      in_i32 (e +ℤ q *ℤ kbm.octave) ≡ false → s ≡ refuses overflow 0 → ReferenceHas kbm es s
  degree : in_i32 (reference_distance kbm) ≡ true → (q e : ℤ) → Reaches es (reference_distance kbm) q (Some e) →
      in_i32 (e +ℤ q *ℤ kbm.octave) ≡ true → s ≡ gives (e +ℤ q *ℤ kbm.octave) → ReferenceHas kbm es s
