-- What the call leaves, why it refuses, and that it has one result. Document 01, "Scales and searches". Assumes nothing.
use Rattle.std.specs.Prelude.{Some, Option}
use Rattle.std.proofs.Common.{◌≡◌, ℕ, zero, suc, ◌+◌, ◌-◌, ◌*◌, ◌^◌, ◌<◌, Bool, true, false, eqb, ltb, List, length, pos, sym, refl, ap, ◌∙◌, subst, mul_assoc, add-mul, mul-pos, mul-one, mul_right_comm, arith, lit<, ltb-true, lt-ltb}
use lib.Ieee.{Float, nan, inf, fin, binary64, up, down, add, sum, div, round, size, of_int, le, lt, eq, neg}
use lib.Ieee.Back.{round_whole}
use lib.Ieee.Exact.{HasValue}
use lib.Ieee.Fits.{down_pos}
use lib.Ieee.Scale.{round_same}
use Rattle.base.specs.Numbers.{unusable, no_room, beyond_reach}
use Rattle.base.specs.Said.{Said, gives, refuses, pick, and_then, One}
use Rattle.base.proofs.Said.{one_result, no_value, same_value}
use Rattle.floats.specs.Floats.{float}
use Rattle.floats.specs.Ranges.{in_reach}
use Rattle.explog.specs.Rules.{E, log_of}
use Rattle.scl_tables.proofs.Reaches.{log_gives}
use Rattle.scl.proofs.Items.{fraction_reach}
use Rattle.pitch.specs.Ratios.{from_float, as_octaves, from_octaves, divided_into}
use Rattle.sorting.specs.Entries.{Entry}
use Rattle.sorted.specs.Lent.{ListTable}
use Rattle.scl.specs.Answers.{says_scl}
use Rattle.scl.specs.Table.{ItemTable}
use Rattle.scl.specs.declared.Item.{Item}
use Rattle.scl.proofs.Theorems.{scl_one}
use Rattle.scl_tables.specs.Room.{room_of}
use Rattle.generate.specs.Generated.{list_of, made_of, items_from, counted_of, items_left, list_left, Leaves}
use Rattle.generate.proofs.Items.{All, all_items, none_of}
use Rattle.generate.proofs.Made.{made_refused}
use Rattle.generate.proofs.Theorems.{made_leaves}
use Rattle.harmonics.specs.Segment.{interval_of, steps_of, segment_count}
use Rattle.harmonics.specs.Harmonics.{item_at, harmonics_of, made_harmonics}
use Rattle.harmonics.specs.Steps.{StepsReach}
use Rattle.harmonics.specs.declared.segment.SegmentType.{SegmentType}
use Rattle.harmonics.proofs.Plans.{steps_reach}
use Rattle.harmonics.proofs.Reaches.{Ways, ways}

-- "zero divisions do": no interval has an equal part of 0
none_over : (x : Float) → from_octaves (div binary64 x (fin false 0 (pos 0))) ≡ refuses beyond_reach 0
unfolding div E le lt eq neg
none_over nan = refl
none_over (inf true) = refl
none_over (inf false) = refl
none_over (fin s m e) = go s (eqb m 0)
  where
    go : (s b : Bool) → from_octaves (mathlib.Core.Bool.cond b nan (inf (lib.Ieee.unlike s false))) ≡ refuses beyond_reach 0
    go s true = refl
    go true false = refl
    go false false = refl

pub zero_divisions : (octaves : Float) → from_octaves (div binary64 octaves (float 0)) ≡ refuses beyond_reach 0
unfolding of_int round size
zero_divisions octaves = none_over octaves

-- a sum of whole numbers is exact
pub sum_of : (s z : ℕ) (x y : Float) → HasValue x false s 1 → HasValue y false z 1 → add binary64 x y ≡ round binary64 false (s + z) 1
unfolding add sum
sum_of s z (fin true i d) y v w = absurd (mathlib.Core.Bool.true≢false v.0)
sum_of s z (fin false i d) (fin true j e) v w = absurd (mathlib.Core.Bool.true≢false w.0)
sum_of s z (fin false i d) (fin false j e) v w =
    let a : i * up d ≡ s * down d = sym (mul-one (i * up d)) ∙ v.1 in
    let b : j * up e ≡ z * down e = sym (mul-one (j * up e)) ∙ w.1 in
    round_same binary64 false (i * up d * down e + j * up e * down d) (down d * down e) (s + z) 1 (mul-pos (down_pos d) (down_pos e)) (lit< tt) (cross s z (i * up d) (j * up e) (down d) (down e) a b)
  where
    cross : (s z a b d e : ℕ) → a ≡ s * d → b ≡ z * e → (a * e + b * d) * 1 ≡ (s + z) * (d * e)
    cross s z a b d e ea eb = rw (ea, eb) (mul-one (s * d * e + z * e * d) ∙ ap (λ (q : ℕ). s * d * e + q) (mul_right_comm z e d) ∙ rw (mul_assoc s d e, mul_assoc z d e) (sym (add-mul s z (d * e))))
sum_of s z nan y v w = elim v [ ]
sum_of s z (inf _) y v w = elim v [ ]
sum_of s z (fin false i d) nan v w = elim w [ ]
sum_of s z (fin false i d) (inf _) v w = elim w [ ]

-- so a segment's whole interval is a ratio
interval_reach : (start size : ℕ) → 0 < start → start < 2 ^ 16 → size < 2 ^ 16 → in_reach (interval_of start size) ≡ true
unfolding of_int
interval_reach start size some a b =
    rw (sum_of start size (round binary64 false start 1) (round binary64 false size 1) (round_whole binary64 false start (omega arith)) (round_whole binary64 false size (omega arith)))
    (fraction_reach (start + size) start (omega arith) (omega arith) some (omega arith))

no_steps : (start size : ℕ) → 0 < start → start < 2 ^ 16 → size < 2 ^ 16 → steps_of start size (Some 0) ≡ refuses beyond_reach 0
no_steps start size some a b =
    let i = interval_of start size in
    let h = interval_reach start size some a b in
    let first : from_float i ≡ gives i = rw h in
    let second : as_octaves i ≡ gives (log_of i) = rw h (log_gives i h) in
    ap (λ (s : Said Float). and_then (and_then s (λ ratio. divided_into ratio (float 0))) (λ step. gives (Some step))) first
    ∙ ap (λ (s : Said Float). and_then (and_then s (λ octaves. from_octaves (div binary64 octaves (float 0)))) (λ step. gives (Some step))) second
    ∙ ap (λ (s : Said Float). and_then s (λ step. gives (Some step))) (zero_divisions (log_of i))

-- ZERO DIVISIONS: 18, where place 0 has room
pub no_divisions : (t : ItemTable) (l : ListTable) (type : SegmentType) (start size : ℕ) → 0 < start → start < 2 ^ 16 → size < 2 ^ 16 → 0 < room_of t l → made_harmonics t l type start size (Some 0) ≡ refuses beyond_reach 0
unfolding made_harmonics
no_divisions t l type start size some a b room =
    rw (lt-ltb 0 start some, no_steps start size some a b) (made_refused t l 0 room)

module _ (t : ItemTable) (l : ListTable) (type : SegmentType) (start size : ℕ) (divisions : (Option ℕ)) (s-small : start < 2 ^ 16) (z-small : size < 2 ^ 16) (small : segment_count size divisions < 2 ^ 16) where
  abbrev n : ℕ
  n = segment_count size divisions

  said_leaves : 0 < start → n < room_of t l → (steps : (Option Float)) → StepsReach size n steps → {is : List Item} → items_from (item_at type start size steps) 1 n ≡ gives is → made_of t l n (gives is) ≡ gives is → Leaves t l is
  said_leaves some room steps r {is} e made = go (ways start size some s-small z-small type n small steps r)
    where
      f : ℕ → Said Item
      f = item_at type start size steps

      by : All f 1 n → Leaves t l is
      by m =
          let same : m.items ≡ is = same_value m.items is (sym m.are ∙ e) in
          let y : length m.items ≡ n = m.size in
          subst (Leaves t l) same
          (made_leaves t l m.items (omega (arith, y)) (omega (arith, y, room)) m.usable m.held
          (rw (y, same) made))

      go : Ways start size some s-small z-small f n → Leaves t l is
      go (Ways.all h) = by (all_items f n 1 (λ j a b. h j (omega arith)))
      go (Ways.beyond q h) = none n refl
        where
          none : (k : ℕ) → n ≡ k → Leaves t l is
          none zero w = by (all_items f n 1 (λ j a b. absurd (omega (arith, w))))
          none (suc k) w = let z : 1 + n - 1 ≡ n = omega arith in no_value (sym (none_of f n 1 (omega (arith, w)) (ap f z ∙ q) (λ j a b. h j)) ∙ e)

  -- WHAT AN ACCEPTED CALL LEAVES: place 0 and its items, in tables that every later call takes; and a start, room and steps it had
  pub harmonics_leaves : {is : List Item} → made_harmonics t l type start size divisions ≡ gives is → (0 < start) × (n < room_of t l) × Leaves t l is
  unfolding made_harmonics made_of
  harmonics_leaves {is} e = first (ltb 0 start) refl e
    where
      Left : Type 0
      Left = (0 < start) × (n < room_of t l) × Leaves t l is

      listed : 0 < start → n < room_of t l → (steps : (Option Float)) → StepsReach size n steps → {is' : List Item} → items_from (item_at type start size steps) 1 n ≡ gives is' → (x : Said (List Entry)) → list_of t l is' ≡ x → and_then x (λ es. gives is') ≡ gives is → Left
      listed some room steps r {is'} h (gives es) g q =
          let same : is' ≡ is = same_value is' is q in
          (some, room, said_leaves some room steps r (h ∙ ap gives same) (rw (lt-ltb n (room_of t l) room, ← same, g)))
      listed some room steps r h (refuses a d) g q = no_value q

      third : 0 < start → n < room_of t l → (steps : (Option Float)) → StepsReach size n steps → (x : Said (List Item)) → items_from (item_at type start size steps) 1 n ≡ x → and_then x (λ is'. and_then (list_of t l is') (λ es. gives is')) ≡ gives is → Left
      third some room steps r (gives is') h q = listed some room steps r h (list_of t l is') refl q
      third some room steps r (refuses a d) h q = no_value q

      second : 0 < start → n < room_of t l → (x : Said (Option Float)) → steps_of start size divisions ≡ x → and_then (and_then x (λ steps. items_from (item_at type start size steps) 1 n)) (λ is'. and_then (list_of t l is') (λ es. gives is')) ≡ gives is → Left
      second some room (gives steps) h q = third some room steps (steps_reach start size divisions steps h) (items_from (item_at type start size steps) 1 n) refl q
      second some room (refuses a d) h q = no_value q

      roomy : 0 < start → (b : Bool) → ltb n (room_of t l) ≡ b → pick b (and_then (harmonics_of type start size divisions) (λ is'. and_then (list_of t l is') (λ es. gives is'))) (refuses no_room 0) ≡ gives is → Left
      roomy some true h q = second some (ltb-true n (room_of t l) h) (steps_of start size divisions) refl q
      roomy some false h q = no_value q

      first : (b : Bool) → ltb 0 start ≡ b → pick b (pick (ltb n (room_of t l)) (and_then (harmonics_of type start size divisions) (λ is'. and_then (list_of t l is') (λ es. gives is'))) (refuses no_room 0)) (refuses unusable 0) ≡ gives is → Left
      first true h q = roomy (ltb-true 0 start h) (ltb n (room_of t l)) refl q
      first false h q = no_value q

-- ---- two results of one input are equal
pub create_harmonics_scale_one : (t : ItemTable) (l : ListTable) (type : SegmentType) (start size : ℕ) (divisions : (Option ℕ)) →
    One says_scl (counted_of (made_harmonics t l type start size divisions)) × One (λ r. r) (items_left (made_harmonics t l type start size divisions) t l) × One (λ r. r) (list_left (made_harmonics t l type start size divisions) t l)
create_harmonics_scale_one t l type start size divisions =
    let made = made_harmonics t l type start size divisions in
    (scl_one (counted_of made), one_result (items_left made t l), one_result (list_left made t l))
