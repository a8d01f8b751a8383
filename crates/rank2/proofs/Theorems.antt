-- What the call leaves, when it is accepted, why it refuses, and that it has one result. Document 01, "Scales and searches". Assumes nothing.
use mathlib.Core.Path.{◌≡◌, refl, sym, ◌∙◌, ap}
use mathlib.Core.Logic.{◌↔◌, ◌⊎◌, inl, inr}
use mathlib.Core.Bool.{Bool, true, false}
use mathlib.Core.List.{List, ◌∷◌}
use Prim.Native.Nat.{ℕ, ◌≤◌, ◌<◌}
use native.Mathlib.Omega.{arith}
use lib.Dec.{leb, ltb}
use lib.Ieee.{Float, binary64, fits}
use lib.ListN.{length}
use borrow.Author.Tests.{le-leb, leb-true, leb-false, ltb-true, ltb-false}
use Rattle.base.specs.Numbers.{unusable, no_room, too_large, beyond_reach}
use Rattle.base.specs.Said.{Said, gives, refuses, and_then, One}
use Rattle.base.proofs.Said.{one_result, no_value, no_refusal, same_value, same_refuses}
use Rattle.pitch.specs.Ratios.{as_cents}
use Rattle.sorted.specs.Lent.{ListTable}
use Rattle.scl.specs.Answers.{says_scl}
use Rattle.scl.specs.Items.{ratio_of, AllHeld}
use Rattle.scl.specs.Table.{ItemTable, implicit, are_usable}
use Rattle.scl.specs.declared.Item.{Item}
use Rattle.scl.proofs.Theorems.{scl_one}
use Rattle.scl_tables.specs.Build.{last_of}
use Rattle.scl_tables.specs.Room.{room_of}
use Rattle.generate.specs.Generated.{made_of, counted_of, items_left, list_left, Leaves}
use Rattle.generate.proofs.Theorems.{beyond_when, accepted_or, made_leaves}
use Rattle.rank2.specs.Notes.{pitch_at}
use Rattle.rank2.specs.Rank2.{note_count, is_temperament, ascending_items, temperament_of, made_rank2, Tested, PeriodOne}
use Rattle.rank2.proofs.Calls.{temperament_says, period_cents, too_many, not_usable, no_place, pushed_of, items_said, items_count}
use Rattle.rank2.proofs.Pushes.{cented}
use Rattle.rank2.proofs.Values.{values_of}

-- numbers of refusals stay apart
apart : {A X : Type 0} {a b c d : ℕ} → ◌≡◌ {A = Said A} (refuses a b) (refuses c d) → (a ≡ c → ⊥) → X
apart e h = absurd (h (same_refuses e).0)

-- the items of a temperament that can be used: as many as it is asked for, each usable
pub record Items (generator : Float) (positive negative : ℕ) (period : Float) : Type 0 where
  pub items : List Item
  pub are : temperament_of generator positive negative period ≡ gives items
  pub size : length items ≡ note_count positive negative
  pub usable : are_usable items ≡ true
  pub held : AllHeld items

module _ (generator : Float) (positive negative : ℕ) (period : Float) (by-held : fits binary64 generator ≡ true) (held : fits binary64 period ≡ true) where
  abbrev n : ℕ
  n = note_count positive negative

  -- NO NOTE IS REFUSED
  pub items_of : n ≤ 65535 → is_temperament generator period ≡ true → Items generator positive negative period
  items_of few h =
      let k = temperament_says generator period h in
      let g = cented generator (record { within = k.by; held = by-held }) in
      let p = cented period (record { within = k.within; held = held }) in
      let f = pitch_at period g.cents p.cents positive in
      let v = values_of period g.cents p.cents (record { within = k.within; held = held }) g.usable (period_cents period held k.within k.some (sym p.is)) positive n few in
      record {
        items = (pushed_of f n v).items;
        are = ap (λ (s : Said Float). and_then s (λ x. and_then (as_cents period) (λ y. ascending_items (pitch_at period x y positive) n))) g.is
            ∙ ap (λ (s : Said Float). and_then s (λ y. ascending_items (pitch_at period g.cents y positive) n)) p.is ∙ items_said f n v;
        size = items_count f n v;
        usable = (pushed_of f n v).usable;
        held = (pushed_of f n v).held;
      }

  module _ (t : ItemTable) (l : ListTable) where
    abbrev call : Said (List Item)
    call = made_rank2 t l generator positive negative period

    -- THE WAYS a call goes, in 01's order of tests
    pub data Way : Type 0 where
      many : 65535 < n → call ≡ refuses too_large 0 → Way
      unfit : n ≤ 65535 → is_temperament generator period ≡ false → call ≡ refuses unusable 0 → Way
      full : n ≤ 65535 → is_temperament generator period ≡ true → room_of t l ≤ n → call ≡ refuses no_room 0 → Way
      one : Tested t l generator positive negative period → PeriodOne generator positive negative period → call ≡ refuses beyond_reach 0 → Way
      made : Tested t l generator positive negative period → (PeriodOne generator positive negative period → ⊥)
          → (is : List Item) → temperament_of generator positive negative period ≡ gives is → call ≡ gives is → Leaves t l is → Way

    made_by : Tested t l generator positive negative period → (m : Items generator positive negative period) → call ≡ made_of t l (length m.items) (gives m.items)
    unfolding made_rank2
    made_by q m = rw (le-leb n 65535 q.few, q.usable, m.are, m.size)

    tested : Tested t l generator positive negative period → Way
    tested q = go (accepted_or t l is few room m.usable m.held)
      where
        m : Items generator positive negative period
        m = items_of q.few q.usable

        is : List Item
        is = m.items

        few : length is ≤ 65535
        few = omega (arith, m.size, q.few)

        room : length is < room_of t l
        room = omega (arith, m.size, q.room)

        last : and_then (temperament_of generator positive negative period) (λ is. ratio_of (last_of (implicit ∷ is))) ≡ ratio_of (last_of (implicit ∷ is))
        last = ap (λ (s : Said (List Item)). and_then s (λ is. ratio_of (last_of (implicit ∷ is)))) m.are

        go : (made_of t l (length is) (gives is) ≡ gives is) ⊎ (made_of t l (length is) (gives is) ≡ refuses beyond_reach 0) → Way
        go (inl e) =
            Way.made q (λ x. no_refusal (sym e ∙ (beyond_when t l is few room m.usable m.held).1 (omega (arith, x.0, m.size), sym last ∙ x.1)))
            is m.are (made_by q m ∙ e) (made_leaves t l is few room m.usable m.held e)
        go (inr e) =
            let x = (beyond_when t l is few room m.usable m.held).0 e in
            Way.one q (omega (arith, x.0, m.size), last ∙ x.1) (made_by q m ∙ e)

    pub way : Way
    way = first (leb n 65535) refl
      where
        third : n ≤ 65535 → is_temperament generator period ≡ true → (b : Bool) → ltb n (room_of t l) ≡ b → Way
        third few h true e = tested (record { few = few; usable = h; room = ltb-true n (room_of t l) e })
        third few h false e = let r : room_of t l ≤ n = omega (arith, ltb-false n (room_of t l) e) in Way.full few h r (no_place t l generator positive negative period few h r)

        second : n ≤ 65535 → (b : Bool) → is_temperament generator period ≡ b → Way
        second few true h = third few h (ltb n (room_of t l)) refl
        second few false h = Way.unfit few h (not_usable t l generator positive negative period few h)

        first : (b : Bool) → leb n 65535 ≡ b → Way
        first true e = second (leb-true n 65535 e) (is_temperament generator period) refl
        first false e = let q : 65535 < n = omega (arith, leb-false n 65535 e) in Way.many q (too_many t l generator positive negative period q)

    -- ---- REFUSED BY CAUSE, accepted exactly else
    pub too_large_when : (call ≡ refuses too_large 0) ↔ (65535 < n)
    too_large_when = (λ e. go e way, too_many t l generator positive negative period)
      where
        go : call ≡ refuses too_large 0 → Way → 65535 < n
        go e (Way.many h q) = h
        go e (Way.unfit few h q) = apart (sym q ∙ e) (λ z. omega (arith, z))
        go e (Way.full few h r q) = apart (sym q ∙ e) (λ z. omega (arith, z))
        go e (Way.one x p q) = apart (sym q ∙ e) (λ z. omega (arith, z))
        go e (Way.made x p is a q v) = no_refusal (sym q ∙ e)

    pub unusable_when : (call ≡ refuses unusable 0) ↔ ((n ≤ 65535) × (is_temperament generator period ≡ false))
    unusable_when = (λ e. go e way, λ x. not_usable t l generator positive negative period x.0 x.1)
      where
        go : call ≡ refuses unusable 0 → Way → (n ≤ 65535) × (is_temperament generator period ≡ false)
        go e (Way.many h q) = apart (sym q ∙ e) (λ z. omega (arith, z))
        go e (Way.unfit few h q) = (few, h)
        go e (Way.full few h r q) = apart (sym q ∙ e) (λ z. omega (arith, z))
        go e (Way.one x p q) = apart (sym q ∙ e) (λ z. omega (arith, z))
        go e (Way.made x p is a q v) = no_refusal (sym q ∙ e)

    pub no_room_when : (call ≡ refuses no_room 0) ↔ ((n ≤ 65535) × (is_temperament generator period ≡ true) × (room_of t l ≤ n))
    no_room_when = (λ e. go e way, λ x. no_place t l generator positive negative period x.0 x.1 x.2)
      where
        go : call ≡ refuses no_room 0 → Way → (n ≤ 65535) × (is_temperament generator period ≡ true) × (room_of t l ≤ n)
        go e (Way.many h q) = apart (sym q ∙ e) (λ z. omega (arith, z))
        go e (Way.unfit few h q) = apart (sym q ∙ e) (λ z. omega (arith, z))
        go e (Way.full few h r q) = (few, h, r)
        go e (Way.one x p q) = apart (sym q ∙ e) (λ z. omega (arith, z))
        go e (Way.made x p is a q v) = no_refusal (sym q ∙ e)

    one_refused : Tested t l generator positive negative period → PeriodOne generator positive negative period → call ≡ refuses beyond_reach 0
    one_refused x p = go (tested x)
      where
        go : Way → call ≡ refuses beyond_reach 0
        go (Way.many h q) = absurd (omega (arith, h, x.few))
        go (Way.unfit few h q) = absurd (mathlib.Core.Bool.true≢false (sym x.usable ∙ h))
        go (Way.full few h r q) = absurd (omega (arith, r, x.room))
        go (Way.one y o q) = q
        go (Way.made y o is a q v) = absurd (o p)

    pub beyond_reach_when : (call ≡ refuses beyond_reach 0) ↔ (Tested t l generator positive negative period × PeriodOne generator positive negative period)
    beyond_reach_when = (λ e. go e way, λ x. one_refused x.0 x.1)
      where
        go : call ≡ refuses beyond_reach 0 → Way → Tested t l generator positive negative period × PeriodOne generator positive negative period
        go e (Way.many h q) = apart (sym q ∙ e) (λ z. omega (arith, z))
        go e (Way.unfit few h q) = apart (sym q ∙ e) (λ z. omega (arith, z))
        go e (Way.full few h r q) = apart (sym q ∙ e) (λ z. omega (arith, z))
        go e (Way.one x p q) = (x, p)
        go e (Way.made x p is a q v) = no_refusal (sym q ∙ e)

    -- WHAT AN ACCEPTED CALL LEAVES: place 0 and its items, in tables that every later call takes; the tests it passed
    pub rank2_leaves : {is : List Item} → call ≡ gives is
        → Tested t l generator positive negative period × (PeriodOne generator positive negative period → ⊥) × (temperament_of generator positive negative period ≡ gives is) × Leaves t l is
    rank2_leaves {is} e = go way
      where
        go : Way → Tested t l generator positive negative period × (PeriodOne generator positive negative period → ⊥) × (temperament_of generator positive negative period ≡ gives is) × Leaves t l is
        go (Way.many h q) = no_value (sym q ∙ e)
        go (Way.unfit few h q) = no_value (sym q ∙ e)
        go (Way.full few h r q) = no_value (sym q ∙ e)
        go (Way.one x p q) = no_value (sym q ∙ e)
        go (Way.made x p is' a q v) =
            let z : is' ≡ is = same_value is' is (sym q ∙ e) in
            (x, p, a ∙ ap gives z, mathlib.Core.Path.subst (Leaves t l) z v)

    -- ACCEPTED EXACTLY WHEN the tests pass and the period is not 1.0, or there is but one item
    pub accepted_when : ((is : List Item) × (call ≡ gives is)) ↔ (Tested t l generator positive negative period × (PeriodOne generator positive negative period → ⊥))
    accepted_when = (λ x. let y = rank2_leaves x.1 in (y.0, y.1), λ x. go x.0 x.1 (tested x.0))
      where
        go : Tested t l generator positive negative period → (PeriodOne generator positive negative period → ⊥) → Way → (is : List Item) × (call ≡ gives is)
        go x o (Way.many h q) = absurd (omega (arith, h, x.few))
        go x o (Way.unfit few h q) = absurd (mathlib.Core.Bool.true≢false (sym x.usable ∙ h))
        go x o (Way.full few h r q) = absurd (omega (arith, r, x.room))
        go x o (Way.one y p q) = absurd (o p)
        go x o (Way.made y p is a q v) = (is, q)

-- ---- two results of one input are equal
pub create_rank2_temperament_scale_one : (t : ItemTable) (l : ListTable) (generator : Float) (positive negative : ℕ) (period : Float) →
    One says_scl (counted_of (made_rank2 t l generator positive negative period)) × One (λ r. r) (items_left (made_rank2 t l generator positive negative period) t l) × One (λ r. r) (list_left (made_rank2 t l generator positive negative period) t l)
create_rank2_temperament_scale_one t l generator positive negative period =
    let said = made_rank2 t l generator positive negative period in
    (scl_one (counted_of said), one_result (items_left said t l), one_result (list_left said t l))
