-- A SEGMENT THAT IS NOT DIVIDED is never refused by 18: its period is (start + size) / start, which is above 1.0 for two or more items.
-- Assumes nothing.
use Rattle.std.specs.Prelude.{None}
use mathlib.Core.Path.{◌≡◌, refl, sym, ◌∙◌, ap, subst}
use mathlib.Core.Logic.{inl, inr}
use mathlib.Core.Bool.{true, false, true≢false}
use mathlib.Core.List.{List, ◌∷◌}
use Prim.Native.Nat.{ℕ, ◌+◌, ◌-◌, ◌*◌, ◌^◌, ◌≤◌, ◌<◌}
use native.Mathlib.Nat.{mul-one, mul_assoc, mul-pos}
use native.Mathlib.Omega.{arith}
use lib.Dec.{T, lit<}
use lib.Ieee.{Float, fin, binary64, up, down, round, size, div, le, lt, eq, of_int, of_bits, inf, nan}
use lib.Ieee.Back.{round_whole}
use lib.Ieee.Exact.{HasValue}
use lib.Ieee.Fits.{down_pos}
use lib.Ieee.Order.{round_mono}
use lib.Ieee.Scale.{round_same}
use Rattle.base.specs.Numbers.{beyond_reach}
use Rattle.base.specs.Said.{Said, gives, refuses, and_then}
use Rattle.floats.specs.Floats.{float, one_f}
use Rattle.floats.specs.Ranges.{in_reach}
use Rattle.explog.proofs.Values.{given}
use Rattle.pitch.specs.Given.{computed}
use Rattle.sorted.specs.Lent.{ListTable}
use Rattle.scl.specs.Items.{ratio_of}
use Rattle.scl.specs.Table.{ItemTable, implicit}
use Rattle.scl.specs.declared.Item.{Item}
use Rattle.scl_tables.specs.Build.{last_of}
use Rattle.harmonics.specs.Segment.{whole_at}
use Rattle.harmonics.specs.declared.segment.SegmentType.{SegmentType}
use Rattle.harmonics.specs.declared.segment.SegmentType.TheVariants.{Otonal, Utonal}
use Rattle.harmonics.specs.Harmonics.{as_item, made_harmonics}
use Rattle.promises.specs.equal_steps.Causes.{Beyond, PeriodOne}
use Rattle.promises.proofs.equal_steps.Divided.{over}
use Rattle.promises.proofs.equal_steps.Theorems.{items_of, beyond_reach_when}

-- ---- a quotient of whole numbers, rounded once
pub quotient : (a b : ℕ) (x w : Float) → HasValue x false a 1 → HasValue w false b 1 → 0 < b → div binary64 x w ≡ round binary64 false a b
quotient a b (fin true m e) w v u p = absurd (true≢false v.0)
quotient a b (fin false m e) w v u p =
    let y : m * up e ≡ a * down e = sym (mul-one (m * up e)) ∙ v.1 in
    over m e b w u p ∙ round_same binary64 false (m * up e) (down e * b) a b (mul-pos (down_pos e) p) p (ap (λ (z : ℕ). z * b) y ∙ mul_assoc a (down e) b)
quotient a b nan w v u p = elim v [ ]
quotient a b (inf _) w v u p = elim v [ ]

above_one : T (le (round binary64 false 65537 65536) one_f) → ⊥
unfolding le lt eq round size of_bits
above_one t = t

-- of a larger and a smaller one it is not 1.0
not_one : (a b : ℕ) → 0 < b → b < 2 ^ 16 → b < a → a < 2 ^ 17 → div binary64 (float a) (float b) ≡ one_f → ⊥
unfolding of_int
not_one a b p s l h e =
    let q = quotient a b (round binary64 false a 1) (round binary64 false b 1) (round_whole binary64 false a (omega arith)) (round_whole binary64 false b (omega arith)) p in
    above_one (subst (λ (x : Float). T (le (round binary64 false 65537 65536) x)) (sym q ∙ e) (round_mono binary64 65537 65536 a b (lit< tt) p (omega arith)))

-- ---- the last item of a whole segment
module _ (start size' : ℕ) (some : 0 < start) (s-small : start < 2 ^ 16) (z-small : size' < 2 ^ 16) (two : 2 ≤ size') where
  fraction_far : (n b : ℕ) → n ≡ start + size' → b ≡ start → computed (div binary64 (float n) (float b)) ≡ gives one_f → ⊥
  fraction_far n b e f q =
      not_one n b (omega (arith, f, some)) (omega (arith, f, s-small)) (omega (arith, e, f, two)) (omega (arith, e, s-small, z-small)) (given (in_reach (div binary64 (float n) (float b))) (div binary64 (float n) (float b)) one_f beyond_reach 0 q).1

  last_far : (type : SegmentType) → ratio_of (as_item (whole_at type start size' size')) ≡ gives one_f → ⊥
  last_far Otonal q = fraction_far (start + size') start refl refl q
  last_far Utonal q = fraction_far (start + size') (start + size' - size') refl (omega arith) q

  period_far : (type : SegmentType) → PeriodOne type start size' None → ⊥
  period_far type x =
      let m = items_of type start size' some s-small z-small None z-small (λ e. let z : ◌≡◌ {A = ℕ} 0 1 = cc in omega (arith, z)) in
      let is = m.last None refl (omega (arith, two)) (as_item (whole_at type start size' size')) refl in
      last_far type (ap ratio_of (sym is) ∙ ap (λ (s : Said (List Item)). and_then s (λ is. ratio_of (last_of (implicit ∷ is)))) (sym m.are) ∙ x.1)

-- WITHOUT DIVISIONS NEVER 18
pub whole_never : (type : SegmentType) (start size' : ℕ) → start < 2 ^ 16 → size' < 2 ^ 16 → (t : ItemTable) (l : ListTable) → made_harmonics t l type start size' None ≡ refuses beyond_reach 0 → ⊥
whole_never type start size' s-small z-small t l e = let w = (beyond_reach_when type start size' None s-small z-small z-small t l).0 e in go w.0.some w.1
  where
    go : 0 < start → Beyond type start size' None → ⊥
    go some (inl x) = let z : ◌≡◌ {A = ℕ} 0 1 = cc in omega (arith, z)
    go some (inr x) = period_far start size' some s-small z-small x.0 type x
