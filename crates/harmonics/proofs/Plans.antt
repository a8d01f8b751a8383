-- What the look at the last item comes to, and the call. Assumes nothing.
use Rattle.std.specs.Prelude.{Some, None, Option}
use Rattle.std.proofs.Common.{◌≡◌, ℕ, zero, suc, ◌+◌, ◌-◌, ◌^◌, ◌<◌, ◌≤◌, Bool, true, false, List, ◌∷◌, length, get_or, sym, refl, ap, ◌∙◌, subst, arith, le-ltb, lt-ltb}
use lib.Ieee.{Float, binary64, fits, div}
use lib.Ieee.Bits.{is_true}
use lib.Ieee.Fits.{div-fits}
use Rattle.base.specs.Numbers.{unusable, no_room, beyond_reach}
use Rattle.base.specs.Said.{Said, gives, refuses, pick, and_then}
use Rattle.base.proofs.Said.{no_value, no_refusal, same_value, same_refuses}
use Rattle.floats.specs.Floats.{float}
use Rattle.pitch.specs.Ratios.{from_float, as_octaves, divided_into}
use Rattle.sorted.specs.Lent.{ListTable}
use Rattle.scl.specs.Items.{is_usable}
use Rattle.scl.specs.Table.{ItemTable, implicit, no_item}
use Rattle.scl.specs.declared.Item.{Item}
use Rattle.scl_tables.specs.Build.{last_of, is_beyond, after_list}
use Rattle.scl_tables.specs.Room.{room_of}
use Rattle.scl_tables.proofs.Beyond.{too_few}
use Rattle.scl_build.specs.Builder.{counted}
use Rattle.generate.specs.Generated.{all_pushed, list_of, made_of, items_from, counted_of, items_left, list_left}
use Rattle.generate.proofs.Items.{All, all_items, none_of, last_of_law}
use Rattle.generate.proofs.Made.{made_no_room, made_refused, made_beyond, made_given, all_given}
use Rattle.generate.proofs.Theorems.{listed, count_is}
use Rattle.harmonics.specs.Segment.{interval_of, fraction_at, steps_of, segment_count}
use Rattle.harmonics.specs.Harmonics.{as_item, item_at, harmonics_of, made_harmonics}
use Rattle.harmonics.specs.Steps.{said_from, StepsReach, looked, planned}
use Rattle.harmonics.specs.declared.segment.Fraction.{Fraction}
use Rattle.harmonics.specs.declared.segment.SegmentType.{SegmentType}
use Rattle.harmonics.proofs.Pushes.{said_all}
use Rattle.harmonics.proofs.Reaches.{Ways, ways, power_held}

-- ---- the steps that are said
part_held : (s : Said Float) (number : ℕ) (step : Float) → and_then s (λ ratio. divided_into ratio (float number)) ≡ gives step → (Rattle.floats.specs.Ranges.in_reach step ≡ true) × (fits binary64 step ≡ true)
part_held (refuses a d) number step e = no_value e
part_held (gives ratio) number step e = go (as_octaves ratio) e
  where
    go : (o : Said Float) → and_then o (λ octaves. Rattle.pitch.specs.Ratios.from_octaves (div binary64 octaves (float number))) ≡ gives step → (Rattle.floats.specs.Ranges.in_reach step ≡ true) × (fits binary64 step ≡ true)
    go (refuses a d) q = no_value q
    go (gives octaves) q = power_held (div binary64 octaves (float number)) step (is_true (fits binary64 (div binary64 octaves (float number))) (div-fits binary64 octaves (float number))) q

pub steps_reach : (start size : ℕ) (divisions : (Option ℕ)) (steps : (Option Float)) → steps_of start size divisions ≡ gives steps → StepsReach size (segment_count size divisions) steps
steps_reach start size None steps e = subst (StepsReach size size) (same_value None steps e) (omega arith)
steps_reach start size (Some number) steps e = go (and_then (from_float (interval_of start size)) (λ ratio. divided_into ratio (float number))) refl e
  where
    go : (s : Said Float) → and_then (from_float (interval_of start size)) (λ ratio. divided_into ratio (float number)) ≡ s → and_then s (λ step. gives (Some step)) ≡ gives steps → StepsReach size number steps
    go (gives step) h q = subst (StepsReach size number) (same_value (Some step) steps q) (part_held (from_float (interval_of start size)) number step h)
    go (refuses a d) h q = no_value q

module _ (type : SegmentType) (start size : ℕ) (some : 0 < start) (s-small : start < 2 ^ 16) (z-small : size < 2 ^ 16) (n : ℕ) (small : n < 2 ^ 16) (steps : (Option Float)) (r : StepsReach size n steps) where
  abbrev f : ℕ → Said Item
  f = item_at type start size steps

  the_ways : Ways start size some s-small z-small f n
  the_ways = ways start size some s-small z-small type n small steps r

  -- where the last item is said, all are
  pub all_said : {i : Item} → f n ≡ gives i → All f 1 n
  all_said {i} e = go the_ways
    where
      go : Ways start size some s-small z-small f n → All f 1 n
      go (Ways.all h) = all_items f n 1 (λ j a b. h j (omega arith))
      go (Ways.beyond q h) = no_value (sym q ∙ e)

  -- the last item of them
  last_said : 0 < n → (m : All f 1 n) {i : Item} → f n ≡ gives i → last_of (implicit ∷ m.items) ≡ i
  last_said p m {i} e =
      let z : 1 + n - 1 ≡ n = omega arith in
      last_of_law m.items (omega (arith, m.size)) ∙ ap (λ (k : ℕ). get_or m.items (k - 1) no_item) m.size ∙ m.last i p (ap f z ∙ e)

  pub last_usable : {fr : Fraction} → gives fr ≡ fraction_at type start size steps n → is_usable (as_item fr) ≡ true
  last_usable {fr} e = go the_ways
    where
      is : f n ≡ gives (as_item fr)
      is = ap (λ (s : Said Fraction). and_then s (λ x. gives (as_item x))) (sym e)

      go : Ways start size some s-small z-small f n → is_usable (as_item fr) ≡ true
      go (Ways.all h) = let x = h n (omega arith) in subst (λ (i : Item). is_usable i ≡ true) (same_value x.item (as_item fr) (sym x.is ∙ is)) x.usable
      go (Ways.beyond q h) = no_value (sym q ∙ is)

  pub look_none : n ≡ 0 → gives steps ≡ looked type start size n steps
  unfolding looked items_from is_beyond
  look_none h = rw h

  pub look_refused : 0 < n → {a d : ℕ} → refuses a d ≡ fraction_at type start size steps n → refuses a d ≡ looked type start size n steps
  unfolding looked
  look_refused p {a} {d} e = go the_ways
    where
      is : f n ≡ refuses a d
      is = ap (λ (s : Said Fraction). and_then s (λ x. gives (as_item x))) (sym e)

      go : Ways start size some s-small z-small f n → refuses a d ≡ and_then (items_from f 1 n) (λ is. pick (is_beyond n (last_of (implicit ∷ is))) (refuses beyond_reach 0) (gives steps))
      go (Ways.all h) = no_refusal (sym (h n (omega arith)).is ∙ is)
      go (Ways.beyond q h) = let z : 1 + n - 1 ≡ n = omega arith in let r = same_refuses (sym is ∙ q) in rw (none_of f n 1 p (ap f z ∙ q) (λ j a b. h j), r.0, r.1)

  pub look_given : 0 < n → {fr : Fraction} → gives fr ≡ fraction_at type start size steps n → {b : Bool} → b ≡ is_beyond n (as_item fr) → looked type start size n steps ≡ pick b (refuses beyond_reach 0) (gives steps)
  unfolding looked
  look_given p {fr} e {b} h =
      let is : f n ≡ gives (as_item fr) = ap (λ (s : Said Fraction). and_then s (λ x. gives (as_item x))) (sym e) in
      let m = all_said is in
      rw (m.are, last_said p m is, h)

  -- ---- by what is looked at: all items are said and within reach
  pub looked_given : looked type start size n steps ≡ gives steps → (m : All f 1 n) × (is_beyond n (last_of (implicit ∷ m.items)) ≡ false)
  unfolding looked
  looked_given e = go the_ways
    where
      goes : List Item → Said (Option Float)
      goes is = pick (is_beyond n (last_of (implicit ∷ is))) (refuses beyond_reach 0) (gives steps)

      by : (m : All f 1 n) (b : Bool) → is_beyond n (last_of (implicit ∷ m.items)) ≡ b → pick b (refuses beyond_reach 0) (gives steps) ≡ gives steps → is_beyond n (last_of (implicit ∷ m.items)) ≡ false
      by m true q g = no_value g
      by m false q g = q

      go : Ways start size some s-small z-small f n → (m : All f 1 n) × (is_beyond n (last_of (implicit ∷ m.items)) ≡ false)
      go (Ways.all h) =
          let m = all_items f n 1 (λ j a b. h j (omega arith)) in
          (m, by m (is_beyond n (last_of (implicit ∷ m.items))) refl (ap (λ (s : Said (List Item)). and_then s goes) (sym m.are) ∙ e))
      go (Ways.beyond q h) = none n refl
        where
          none : (k : ℕ) → n ≡ k → (m : All f 1 n) × (is_beyond n (last_of (implicit ∷ m.items)) ≡ false)
          none zero w = (all_items f n 1 (λ j a b. absurd (omega arith)), sym (too_few n _ (omega (arith, w))))
          none (suc k) w = let z : 1 + n - 1 ≡ n = omega arith in no_value (ap (λ (s : Said (List Item)). and_then s goes) (sym (none_of f n 1 (omega (arith, w)) (ap f z ∙ q) (λ j a b. h j))) ∙ e)

-- the look answers the steps themselves
looked_same : (type : SegmentType) (start size n : ℕ) (steps other : (Option Float)) → looked type start size n steps ≡ gives other → steps ≡ other
unfolding looked
looked_same type start size n steps other e = go (items_from (item_at type start size steps) 1 n) e
  where
    by : (b : Bool) → pick b (refuses beyond_reach 0) (gives steps) ≡ gives other → steps ≡ other
    by true q = no_value q
    by false q = same_value steps other q

    go : (s : Said (List Item)) → and_then s (λ is. pick (is_beyond n (last_of (implicit ∷ is))) (refuses beyond_reach 0) (gives steps)) ≡ gives other → steps ≡ other
    go (gives is) q = by (is_beyond n (last_of (implicit ∷ is))) q
    go (refuses a d) q = no_value q

-- ---- THE CALL
module _ (t : ItemTable) (l : ListTable) (type : SegmentType) (start size : ℕ) (divisions : (Option ℕ)) where
  abbrev made : Said (List Item)
  made = made_harmonics t l type start size divisions

  pub none_start : start ≡ 0 → made ≡ refuses unusable 0
  unfolding made_harmonics
  none_start h = rw (le-ltb 0 start (omega (arith, h)))

  module _ (some : 0 < start) where
    pub no_place : room_of t l ≤ segment_count size divisions → made ≡ refuses no_room 0
    unfolding made_harmonics
    no_place h = rw (lt-ltb 0 start some) (made_no_room t l (segment_count size divisions) (harmonics_of type start size divisions) h)

    module _ (s-small : start < 2 ^ 16) (z-small : size < 2 ^ 16) (small : segment_count size divisions < 2 ^ 16) (room : segment_count size divisions < room_of t l) where
      -- where all items are said
      made_by : {x : Said (List Item)} → harmonics_of type start size divisions ≡ x → made ≡ made_of t l (segment_count size divisions) x
      unfolding made_harmonics
      made_by e = rw (lt-ltb 0 start some, e)

      at : {a d : ℕ} (steps : (Option Float)) → StepsReach size (segment_count size divisions) steps → looked type start size (segment_count size divisions) steps ≡ refuses a d
          → made_of t l (segment_count size divisions) (items_from (item_at type start size steps) 1 (segment_count size divisions)) ≡ refuses a d
      unfolding looked
      at {a} {d} steps r e = go (ways start size some s-small z-small type (segment_count size divisions) small steps r)
        where
          n : ℕ
          n = segment_count size divisions

          f : ℕ → Said Item
          f = item_at type start size steps

          goes : List Item → Said (Option Float)
          goes is = pick (is_beyond n (last_of (implicit ∷ is))) (refuses beyond_reach 0) (gives steps)

          by : (m : All f 1 n) (b : Bool) → is_beyond n (last_of (implicit ∷ m.items)) ≡ b → pick b (refuses beyond_reach 0) (gives steps) ≡ refuses a d → made_of t l n (gives m.items) ≡ refuses a d
          by m true q g =
              let x = same_refuses g in
              let y : length m.items ≡ n = m.size in
              ap (λ (k : ℕ). made_of t l k (gives m.items)) (sym y)
              ∙ made_beyond t l m.items (omega (arith, y)) (omega (arith, y)) m.usable m.held (ap (λ (k : ℕ). is_beyond k (last_of (implicit ∷ m.items))) y ∙ q)
              ∙ rw (x.0, x.1)
          by m false q g = no_refusal g

          go : Ways start size some s-small z-small f n → made_of t l n (items_from f 1 n) ≡ refuses a d
          go (Ways.all h) =
              let m = all_items f n 1 (λ j a b. h j (omega arith)) in
              rw m.are (by m (is_beyond n (last_of (implicit ∷ m.items))) refl (ap (λ (s : Said (List Item)). and_then s goes) (sym m.are) ∙ e))
          go (Ways.beyond q h) = none n refl
            where
              none : (k : ℕ) → n ≡ k → made_of t l n (items_from f 1 n) ≡ refuses a d
              none zero w =
                  let m = all_items f n 1 (λ j a b. absurd (omega (arith, w))) in
                  rw m.are (by m (is_beyond n (last_of (implicit ∷ m.items))) refl (ap (λ (s : Said (List Item)). and_then s goes) (sym m.are) ∙ e))
              none (suc k) w =
                  let z : 1 + n - 1 ≡ n = omega arith in
                  let p = none_of f n 1 (omega (arith, w)) (ap f z ∙ q) (λ j a b. h j) in
                  let x = same_refuses (ap (λ (s : Said (List Item)). and_then s goes) (sym p) ∙ e) in
                  rw p (made_refused t l n room ∙ rw (x.0, x.1))

      pub plan_refused : {a d : ℕ} → refuses a d ≡ planned type start size divisions → made ≡ refuses a d
      plan_refused {a} {d} e = go (steps_of start size divisions) refl e
        where
          go : (s : Said (Option Float)) → steps_of start size divisions ≡ s → refuses a d ≡ and_then s (λ steps. looked type start size (segment_count size divisions) steps) → made ≡ refuses a d
          go (gives steps) h q = made_by (ap (λ (s : Said (Option Float)). and_then s (λ steps. items_from (item_at type start size steps) 1 (segment_count size divisions))) h) ∙ at steps (steps_reach start size divisions steps h) (sym q)
          go (refuses x y) h q =
              let z = same_refuses q in
              made_by (ap (λ (s : Said (Option Float)). and_then s (λ steps. items_from (item_at type start size steps) 1 (segment_count size divisions))) h) ∙ made_refused t l (segment_count size divisions) room ∙ rw (z.0, z.1)

      -- what is written is what the definition leaves
      pub plan_given : {steps : (Option Float)} → gives steps ≡ planned type start size divisions → {x : Said ℕ} {t' : ItemTable} {l' : ListTable}
          → x ≡ counted (all_pushed t l (said_from (item_at type start size steps) 1 (segment_count size divisions))).builder (list_of t l (said_from (item_at type start size steps) 1 (segment_count size divisions)))
          → t' ≡ (all_pushed t l (said_from (item_at type start size steps) 1 (segment_count size divisions))).table
          → l' ≡ after_list (list_of t l (said_from (item_at type start size steps) 1 (segment_count size divisions))) l
          → (x ≡ counted_of made) × (t' ≡ items_left made t l) × (l' ≡ list_left made t l)
      plan_given {steps} e {x} {t'} {l'} ex et el = go (steps_of start size divisions) refl e
        where
          n : ℕ
          n = segment_count size divisions

          all : StepsReach size n steps → steps_of start size divisions ≡ gives steps → looked type start size n steps ≡ gives steps → (x ≡ counted_of made) × (t' ≡ items_left made t l) × (l' ≡ list_left made t l)
          all r h q =
              let w = looked_given type start size some s-small z-small n small steps r q in
              let m = w.0 in
              let is = m.items in
              let y : length is ≡ n = m.size in
              let b : is_beyond (length is) (last_of (implicit ∷ is)) ≡ false = ap (λ (k : ℕ). is_beyond k (last_of (implicit ∷ is))) y ∙ w.1 in
              let few : length is ≤ 65535 = omega (arith, y) in
              let fit : length is < room_of t l = omega (arith, y, room) in
              let g : made ≡ gives is =
              made_by (ap (λ (s : Said (Option Float)). and_then s (λ steps. items_from (item_at type start size steps) 1 n)) h ∙ m.are)
              ∙ ap (λ (k : ℕ). made_of t l k (gives is)) (sym y) ∙ made_given t l is few fit m.usable m.held b in
              let said : said_from (item_at type start size steps) 1 n ≡ is = said_all (item_at type start size steps) n 1 m.are in
              let a = all_given t l g (et ∙ ap (λ (z : List Item). (all_pushed t l z).table) said) (el ∙ ap (λ (z : List Item). after_list (list_of t l z) l) said) in (
                ex ∙ ap (λ (z : List Item). counted (all_pushed t l z).builder (list_of t l z)) said
                    ∙ ap (counted (all_pushed t l is).builder) (listed t l is few fit m.usable m.held b)
                    ∙ ap gives (count_is t l is few fit m.usable m.held b) ∙ a.0,
                a.1,
                a.2,
              )

          go : (s : Said (Option Float)) → steps_of start size divisions ≡ s → gives steps ≡ and_then s (λ z. looked type start size n z) → (x ≡ counted_of made) × (t' ≡ items_left made t l) × (l' ≡ list_left made t l)
          go (refuses a d) h q = no_refusal q
          go (gives steps') h q = by (looked_same type start size n steps' steps (sym q))
            where
              by : steps' ≡ steps → (x ≡ counted_of made) × (t' ≡ items_left made t l) × (l' ≡ list_left made t l)
              by z =
                  let h' : steps_of start size divisions ≡ gives steps = h ∙ ap gives z in
                  all (steps_reach start size divisions steps h') h' (ap (looked type start size n) (sym z) ∙ sym q)
