-- WHEN `create_harmonics_scale` REFUSES: each number exactly for its cause, and accepted exactly else. Document 01, "Scales and
-- searches". Assumes nothing.
use Rattle.std.specs.Prelude.{Some, None, Option}
use mathlib.Core.Path.{◌≡◌, refl, sym, ◌∙◌, ap}
use mathlib.Core.Logic.{◌↔◌, ◌⊎◌, inl, inr}
use mathlib.Core.Bool.{Bool, true, false}
use mathlib.Core.List.{List, ◌∷◌}
use Prim.Native.Nat.{ℕ, zero, suc, ◌+◌, ◌-◌, ◌^◌, ◌≤◌, ◌<◌}
use native.Mathlib.Omega.{arith}
use lib.Dec.{ltb}
use lib.Ieee.{Float, binary64, fits, mul}
use lib.Ieee.Bits.{is_true}
use lib.Ieee.Fits.{mul-fits}
use lib.ListN.{length, get_or}
use borrow.Author.Tests.{lt-ltb, ltb-true, ltb-false}
use Rattle.base.specs.Numbers.{unusable, no_room, too_large, beyond_reach}
use Rattle.base.specs.Said.{Said, gives, refuses, and_then}
use Rattle.base.proofs.Said.{no_value, no_refusal, same_value, same_refuses}
use Rattle.floats.specs.Floats.{float}
use Rattle.explog.specs.Rules.{log_of}
use Rattle.pitch.specs.Ratios.{as_octaves, from_octaves, repeated}
use Rattle.sorted.specs.Lent.{ListTable}
use Rattle.scl.specs.Items.{ratio_of, AllHeld}
use Rattle.scl.specs.Table.{ItemTable, implicit, no_item, are_usable}
use Rattle.scl.specs.declared.Item.{Item}
use Rattle.scl.proofs.Items.{powers_ratio}
use Rattle.scl_tables.proofs.Reaches.{log_gives}
use Rattle.scl_tables.specs.Build.{last_of}
use Rattle.scl_tables.specs.Room.{room_of}
use Rattle.harmonics.specs.Segment.{near_at, steps_of, segment_count}
use Rattle.harmonics.specs.declared.segment.SegmentType.{SegmentType}
use Rattle.generate.specs.Generated.{made_of, items_from, Leaves}
use Rattle.generate.proofs.Items.{All, all_items, last_of_law}
use Rattle.generate.proofs.Theorems.{beyond_when, accepted_or, made_leaves}
use Rattle.harmonics.specs.Harmonics.{as_item, item_at, harmonics_of, made_harmonics}
use Rattle.harmonics.proofs.Plans.{steps_reach, none_start, no_place}
use Rattle.harmonics.proofs.Reaches.{Ways, ways}
use Rattle.harmonics.proofs.Theorems.{no_divisions}
use Rattle.promises.specs.equal_steps.Causes.{Tested, NoDivisions, Beyond, SegmentItems}
use Rattle.promises.proofs.equal_steps.Divided.{step, step_reach, steps_said, steps_in_powers}

-- numbers of refusals stay apart
apart : {A X : Type 0} {a b c d : ℕ} → ◌≡◌ {A = Said A} (refuses a b) (refuses c d) → (a ≡ c → ⊥) → X
apart e h = absurd (h (same_refuses e).0)

none_or : (divisions : (Option ℕ)) → NoDivisions divisions ⊎ (NoDivisions divisions → ⊥)
none_or None = inr (λ e. let z : ◌≡◌ {A = ℕ} 0 1 = cc in omega (arith, z))
none_or (Some zero) = inl refl
none_or (Some (suc n)) = inr (λ e. let z : suc n ≡ 0 = cc in omega (arith, z))

module _ (type : SegmentType) (start size : ℕ) (some : 0 < start) (s-small : start < 2 ^ 16) (z-small : size < 2 ^ 16) where
  of_steps : (divisions : (Option ℕ)) (steps : (Option Float)) → segment_count size divisions < 2 ^ 16 → steps_of start size divisions ≡ gives steps → (item_at type start size steps (segment_count size divisions) ≡ refuses beyond_reach 0 → ⊥) → SegmentItems type start size divisions
  of_steps divisions steps small e last = go (ways start size some s-small z-small type n small steps (steps_reach start size divisions steps e))
    where
      n : ℕ
      n = segment_count size divisions

      by : All (item_at type start size steps) 1 n → SegmentItems type start size divisions
      by m = record {
        items = m.items;
        are = ap (λ (s : Said (Option Float)). and_then s (λ x. items_from (item_at type start size x) 1 n)) e ∙ m.are;
        size_is = m.size;
        usable = m.usable;
        held = m.held;
        last = λ x q p i is.
            let z : 1 + n - 1 ≡ n = omega arith in
            let same : x ≡ steps = same_value x steps (sym q ∙ e) in
            last_of_law m.items (omega (arith, m.size, p)) ∙ ap (λ (k : ℕ). get_or m.items (k - 1) no_item) m.size
            ∙ m.last i p (ap (item_at type start size steps) z ∙ ap (λ (y : (Option Float)). item_at type start size y n) (sym same) ∙ is);
      }

      go : Ways start size some s-small z-small (item_at type start size steps) n → SegmentItems type start size divisions
      go (Ways.all h) = by (all_items (item_at type start size steps) n 1 (λ j a b. h j (omega arith)))
      go (Ways.beyond q h) = absurd (last q)

  -- the last of n equal steps
  last_said : (n : ℕ) (pos : 0 < n) (few : n < 2 ^ 16) → item_at type start size (Some (step start size n some s-small z-small pos few)) n ≡ refuses beyond_reach 0 → ⊥
  last_said n pos few q =
      let x = step start size n some s-small z-small pos few in
      let r = step_reach start size n some s-small z-small pos few in
      let o = mul binary64 (log_of x) (float n) in
      let t = powers_ratio o (is_true (fits binary64 o) (mul-fits binary64 (log_of x) (float n))) (steps_in_powers start size n some s-small z-small pos few) in
      let octaves : as_octaves x ≡ gives (log_of x) = rw r (log_gives x r) in
      let said : repeated x (float n) ≡ gives t.value = ap (λ (s : Said Float). and_then s (λ octaves. from_octaves (mul binary64 octaves (float n)))) octaves ∙ t.is in
      no_refusal (sym (ap (λ (s : Said Float). and_then (and_then s (λ ratio. gives (near_at type start size ratio))) (λ f. gives (as_item f))) said) ∙ q)

  -- NO ITEM IS REFUSED, but by 0 divisions
  pub items_of : (divisions : (Option ℕ)) → segment_count size divisions < 2 ^ 16 → (NoDivisions divisions → ⊥) → SegmentItems type start size divisions
  items_of None small h = of_steps None None small refl (λ q. no_refusal q)
  items_of (Some zero) small h = absurd (h refl)
  items_of (Some (suc n)) small h =
      let pos : 0 < suc n = omega arith in
      of_steps (Some (suc n)) (Some (step start size (suc n) some s-small z-small pos small)) small (steps_said start size (suc n) some s-small z-small pos small) (last_said (suc n) pos small)

module _ (type : SegmentType) (start size : ℕ) (divisions : (Option ℕ)) (s-small : start < 2 ^ 16) (z-small : size < 2 ^ 16) (small : segment_count size divisions < 2 ^ 16) (t : ItemTable) (l : ListTable) where
  abbrev n : ℕ
  n = segment_count size divisions

  abbrev call : Said (List Item)
  call = made_harmonics t l type start size divisions

  -- THE WAYS a call goes, in 01's order of tests
  pub data Way : Type 0 where
    none : start ≡ 0 → call ≡ refuses unusable 0 → Way
    full : 0 < start → room_of t l ≤ n → call ≡ refuses no_room 0 → Way
    beyond : Tested t l start size divisions → Beyond type start size divisions → call ≡ refuses beyond_reach 0 → Way
    made : Tested t l start size divisions → (Beyond type start size divisions → ⊥)
        → (is : List Item) → harmonics_of type start size divisions ≡ gives is → call ≡ gives is → Leaves t l is → Way

  made_by : Tested t l start size divisions → (m : SegmentItems type start size divisions) → call ≡ made_of t l (length m.items) (gives m.items)
  unfolding made_harmonics
  made_by q m = rw (lt-ltb 0 start q.some, m.are, m.size_is)

  divided : Tested t l start size divisions → (NoDivisions divisions → ⊥) → Way
  divided q some = go (accepted_or t l is few room m.usable m.held)
    where
      m : SegmentItems type start size divisions
      m = items_of type start size q.some s-small z-small divisions small some

      is : List Item
      is = m.items

      few : length is ≤ 65535
      few = omega (arith, m.size_is, small)

      room : length is < room_of t l
      room = omega (arith, m.size_is, q.room)

      last : and_then (harmonics_of type start size divisions) (λ is. ratio_of (last_of (implicit ∷ is))) ≡ ratio_of (last_of (implicit ∷ is))
      last = ap (λ (s : Said (List Item)). and_then s (λ is. ratio_of (last_of (implicit ∷ is)))) m.are

      not_one : made_of t l (length is) (gives is) ≡ gives is → Beyond type start size divisions → ⊥
      not_one e (inl x) = some x
      not_one e (inr x) = no_refusal (sym e ∙ (beyond_when t l is few room m.usable m.held).1 (omega (arith, x.0, m.size_is), sym last ∙ x.1))

      go : (made_of t l (length is) (gives is) ≡ gives is) ⊎ (made_of t l (length is) (gives is) ≡ refuses beyond_reach 0) → Way
      go (inl e) = Way.made q (not_one e) is m.are (made_by q m ∙ e) (made_leaves t l is few room m.usable m.held e)
      go (inr e) =
          let x = (beyond_when t l is few room m.usable m.held).0 e in
          Way.beyond q (inr (omega (arith, x.0, m.size_is), last ∙ x.1)) (made_by q m ∙ e)

  undivided : Tested t l start size divisions → NoDivisions divisions → call ≡ refuses beyond_reach 0
  undivided q e =
      ap (made_harmonics t l type start size) e ∙ no_divisions t l type start size q.some s-small z-small (omega (arith, q.room))

  tested : Tested t l start size divisions → Way
  tested q = elim (none_or divisions) [
    | inl e ↦ Way.beyond q (inl e) (undivided q e)
    | inr h ↦ divided q h
  ]

  pub way : Way
  way = first (ltb 0 start) refl
    where
      second : 0 < start → (b : Bool) → ltb n (room_of t l) ≡ b → Way
      second some true e = tested (record { some = some; room = ltb-true n (room_of t l) e })
      second some false e = let r : room_of t l ≤ n = omega (arith, ltb-false n (room_of t l) e) in Way.full some r (no_place t l type start size divisions some r)

      first : (b : Bool) → ltb 0 start ≡ b → Way
      first true e = second (ltb-true 0 start e) (ltb n (room_of t l)) refl
      first false e = let z : start ≡ 0 = omega (arith, ltb-false 0 start e) in Way.none z (none_start t l type start size divisions z)

  -- ---- REFUSED BY CAUSE, accepted exactly else
  -- 13 never
  pub too_large_never : call ≡ refuses too_large 0 → ⊥
  too_large_never e = go way
    where
      go : Way → ⊥
      go (Way.none h q) = apart (sym q ∙ e) (λ z. omega (arith, z))
      go (Way.full s r q) = apart (sym q ∙ e) (λ z. omega (arith, z))
      go (Way.beyond x p q) = apart (sym q ∙ e) (λ z. omega (arith, z))
      go (Way.made x p is a q v) = no_refusal (sym q ∙ e)

  pub unusable_when : (call ≡ refuses unusable 0) ↔ (start ≡ 0)
  unusable_when = (λ e. go e way, none_start t l type start size divisions)
    where
      go : call ≡ refuses unusable 0 → Way → start ≡ 0
      go e (Way.none h q) = h
      go e (Way.full s r q) = apart (sym q ∙ e) (λ z. omega (arith, z))
      go e (Way.beyond x p q) = apart (sym q ∙ e) (λ z. omega (arith, z))
      go e (Way.made x p is a q v) = no_refusal (sym q ∙ e)

  pub no_room_when : (call ≡ refuses no_room 0) ↔ ((0 < start) × (room_of t l ≤ n))
  no_room_when = (λ e. go e way, λ x. no_place t l type start size divisions x.0 x.1)
    where
      go : call ≡ refuses no_room 0 → Way → (0 < start) × (room_of t l ≤ n)
      go e (Way.none h q) = apart (sym q ∙ e) (λ z. omega (arith, z))
      go e (Way.full s r q) = (s, r)
      go e (Way.beyond x p q) = apart (sym q ∙ e) (λ z. omega (arith, z))
      go e (Way.made x p is a q v) = no_refusal (sym q ∙ e)

  -- 18 for 0 divisions, and for two or more items with the period 1.0: no step leaves E's domain
  pub beyond_reach_when : (call ≡ refuses beyond_reach 0) ↔ (Tested t l start size divisions × Beyond type start size divisions)
  beyond_reach_when = (λ e. there e way, λ x. back x.0 x.1 (tested x.0))
    where
      there : call ≡ refuses beyond_reach 0 → Way → Tested t l start size divisions × Beyond type start size divisions
      there e (Way.none h q) = apart (sym q ∙ e) (λ z. omega (arith, z))
      there e (Way.full s r q) = apart (sym q ∙ e) (λ z. omega (arith, z))
      there e (Way.beyond x p q) = (x, p)
      there e (Way.made x p is a q v) = no_refusal (sym q ∙ e)

      back : Tested t l start size divisions → Beyond type start size divisions → Way → call ≡ refuses beyond_reach 0
      back x b (Way.none h q) = absurd (omega (arith, h, x.some))
      back x b (Way.full s r q) = absurd (omega (arith, r, x.room))
      back x b (Way.beyond y p q) = q
      back x b (Way.made y p is a q v) = absurd (p b)

  -- ACCEPTED EXACTLY WHEN the tests pass and no cause of 18 is there
  pub accepted_when : ((is : List Item) × (call ≡ gives is)) ↔ (Tested t l start size divisions × (Beyond type start size divisions → ⊥))
  accepted_when = (λ x. there x.0 x.1 way, λ x. back x.0 x.1 (tested x.0))
    where
      there : (is : List Item) → call ≡ gives is → Way → Tested t l start size divisions × (Beyond type start size divisions → ⊥)
      there is e (Way.none h q) = no_value (sym q ∙ e)
      there is e (Way.full s r q) = no_value (sym q ∙ e)
      there is e (Way.beyond x p q) = no_value (sym q ∙ e)
      there is e (Way.made x p is' a q v) = (x, p)

      back : Tested t l start size divisions → (Beyond type start size divisions → ⊥) → Way → (is : List Item) × (call ≡ gives is)
      back x b (Way.none h q) = absurd (omega (arith, h, x.some))
      back x b (Way.full s r q) = absurd (omega (arith, r, x.room))
      back x b (Way.beyond y p q) = absurd (b p)
      back x b (Way.made y p is a q v) = (is, q)
