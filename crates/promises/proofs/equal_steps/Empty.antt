-- A SEGMENT OF SIZE 0 in two or more divisions is beyond reach: each of its items is start / start, so its period is 1.0. Assumes
-- nothing.
use Rattle.std.specs.Prelude.{Some}
use mathlib.Core.Path.{◌≡◌, refl, sym, ◌∙◌, ap}
use mathlib.Core.Logic.{inr}
use mathlib.Core.Bool.{Bool, true, false, true≢false}
use mathlib.Core.List.{List, ◌∷◌}
use Prim.Native.Nat.{ℕ, ◌+◌, ◌-◌, ◌*◌, ◌/◌, ◌^◌, ◌≤◌, ◌<◌}
use native.Mathlib.Nat.{mul-one, one-mul, zero-mul, mul-pos, mul-div_cancel}
use native.Mathlib.Omega.{arith}
use lib.Arith.{digits_div}
use lib.Dec.{lit<, lit≤, le→leb}
use lib.IntN.{ℤ, pos}
use lib.Ieee.{Float, fin, binary64, up, down, round, size, neg, mul, div, le, lt, eq, of_int, of_bits, to_unsigned, in_float, inf, nan}
use lib.Ieee.Back.{round_whole, unsigned_back}
use lib.Ieee.Exact.{HasValue}
use lib.Ieee.Fits.{down_pos}
use lib.Ieee.Scale.{round_same}
use Rattle.base.specs.Numbers.{beyond_reach}
use Rattle.base.specs.Said.{Said, gives, refuses, pick, and_then}
use Rattle.floats.specs.Floats.{float, floor, one_f}
use Rattle.floats.proofs.Sign.{round_neg}
use Rattle.explog.specs.Exp.{t_of, p_of}
use Rattle.explog.specs.Log.{b_of, y_of}
use Rattle.explog.specs.Root.{root, root_from}
use Rattle.explog.specs.Rules.{E, L, floor_of, times_power, power_of, log_of, log_at, octaves_of}
use Rattle.pitch.specs.Given.{computed}
use Rattle.pitch.specs.Ratios.{as_octaves, from_octaves, repeated}
use Rattle.sorted.specs.Lent.{ListTable}
use Rattle.scl.specs.Items.{ratio_of}
use Rattle.scl.specs.Table.{ItemTable, implicit}
use Rattle.scl.specs.declared.Item.{Item}
use Rattle.scl_tables.specs.Build.{last_of}
use Rattle.scl_tables.specs.Room.{room_of}
use Rattle.harmonics.specs.Segment.{harmonic_of, item_fraction, near_at, interval_of}
use Rattle.harmonics.specs.declared.segment.Fraction.{Fraction}
use Rattle.harmonics.specs.declared.segment.SegmentType.{SegmentType}
use Rattle.harmonics.specs.declared.segment.SegmentType.TheVariants.{Otonal, Utonal}
use Rattle.harmonics.specs.Harmonics.{as_item, item_at, made_harmonics}
use Rattle.harmonics.proofs.Sizes.{times}
use Rattle.harmonics.proofs.Theorems.{sum_of}
use Rattle.promises.specs.equal_steps.Causes.{PeriodOne}
use Rattle.promises.proofs.equal_steps.Divided.{over, step, steps_said}
use Rattle.promises.proofs.equal_steps.Theorems.{items_of, beyond_reach_when}
use Rattle.promises.proofs.equal_steps.Whole.{quotient}

abbrev One : Float
One = fin false 1 (pos 0)

abbrev Zero : Float
Zero = fin false 0 (pos 0)

one_is : round binary64 false 1 1 ≡ One
unfolding round size
one_is = refl

zero_is : round binary64 false 0 1 ≡ Zero
unfolding round size
zero_is = refl

-- ---- L(1) = 0 and E(0) = 1
log_one : log_of One ≡ Zero
unfolding log_of log_at octaves_of b_of y_of round size
log_one = refl

power_zero : power_of (floor_of Zero) ≡ One
unfolding floor_of power_of times_power t_of root root_from p_of round size
power_zero = refl

-- ---- the harmonic near a whole number is it
floor_up : (k m : ℕ) (e : ℤ) → m * up e * 1 ≡ k * down e → floor (fin false m e) ≡ round binary64 false k 1
unfolding floor
floor_up k m e v =
    let y : m * up e ≡ k * down e = sym (mul-one (m * up e)) ∙ v in
    ap (λ (z : ℕ). round binary64 false z 1) (ap (λ (z : ℕ). z / down e) y ∙ mul-div_cancel k (down_pos e))

floor_down : (k m : ℕ) (e : ℤ) → m * up e * 1 ≡ k * down e → floor (fin true m e) ≡ round binary64 true k 1
unfolding floor
floor_down k m e v =
    let y : m * up e ≡ k * down e = sym (mul-one (m * up e)) ∙ v in
    let less : down e - 1 < down e = omega (arith, down_pos e) in
    ap (λ (z : ℕ). round binary64 true z 1) (ap (λ (z : ℕ). (z + (down e - 1)) / down e) y ∙ digits_div k less)

harmonic_whole : (k : ℕ) → k < 2 ^ 32 → (x : Float) → HasValue x false k 1 → harmonic_of x ≡ k
unfolding harmonic_of neg in_float of_int
harmonic_whole k h (fin true m e) v = absurd (true≢false v.0)
harmonic_whole k h (fin false m e) v = rw (floor_up k m e v.1, floor_down k m e v.1, round_neg binary64 true k 1) (go (lt (div binary64 (fin false m e) (round binary64 false k 1)) (div binary64 (round binary64 false k 1) (fin false m e))))
  where
    back : to_unsigned 32 (round binary64 false k 1) ≡ k
    back = (unsigned_back binary64 32 k (le→leb k (2 ^ 53) (omega (arith, h))) h).1

    go : (b : Bool) → to_unsigned 32 (pick b (round binary64 false k 1) (round binary64 false k 1)) ≡ k
    go true = back
    go false = back
harmonic_whole k h nan v = elim v [ ]
harmonic_whole k h (inf _) v = elim v [ ]

-- ---- a number over itself
self_over : (k : ℕ) → 0 < k → k < 2 ^ 16 → (x w : Float) → HasValue x false k 1 → HasValue w false k 1 → div binary64 x w ≡ One
self_over k p s x w v u = quotient k k x w v u p ∙ round_same binary64 false k k 1 1 p (lit< tt) (mul-one k ∙ sym (one-mul k)) ∙ one_is

-- 0 / n and 0 * n
none_of : (n : ℕ) → 0 < n → n < 2 ^ 16 → div binary64 Zero (float n) ≡ Zero
unfolding of_int
none_of n p s =
    over 0 (pos 0) n (round binary64 false n 1) (round_whole binary64 false n (omega (arith, s))) p
    ∙ round_same binary64 false (0 * up (pos 0)) (down (pos 0) * n) 0 1 (mul-pos (down_pos (pos 0)) p) (lit< tt) (mul-one (0 * up (pos 0)) ∙ zero-mul (up (pos 0)) ∙ sym (zero-mul (down (pos 0) * n)))
    ∙ zero_is

none_times : (n : ℕ) → n < 2 ^ 16 → mul binary64 Zero (float n) ≡ Zero
none_times n s = times false 0 (pos 0) n (omega (arith, s)) ∙ ap (λ (z : ℕ). round binary64 false z 1) (ap (λ (z : ℕ). z * n) (zero-mul (up (pos 0))) ∙ zero-mul n) ∙ zero_is

-- ---- what each item is
module _ (start n : ℕ) (some : 0 < start) (s-small : start < 2 ^ 16) (pos_n : 0 < n) (few : n < 2 ^ 16) where
  whole : HasValue (round binary64 false start 1) false start 1
  whole = round_whole binary64 false start (omega (arith, s-small))

  interval_one : interval_of start 0 ≡ One
  unfolding of_int
  interval_one =
      let z : start + 0 ≡ start = omega arith in
      ap (λ (x : Float). div binary64 x (round binary64 false start 1)) (sum_of start 0 (round binary64 false start 1) (round binary64 false 0 1) whole (round_whole binary64 false 0 (lit≤ tt)) ∙ ap (λ (k : ℕ). round binary64 false k 1) z)
      ∙ self_over start some s-small (round binary64 false start 1) (round binary64 false start 1) whole whole

  step_one : step start 0 n some s-small (lit< tt) pos_n few ≡ One
  step_one =
      ap (λ (x : Float). power_of (floor_of (div binary64 (log_of x) (float n)))) interval_one
      ∙ ap (λ (x : Float). power_of (floor_of (div binary64 x (float n)))) log_one
      ∙ ap (λ (x : Float). power_of (floor_of x)) (none_of n pos_n few)
      ∙ power_zero

  one_octaves : as_octaves One ≡ gives Zero
  unfolding L log_of log_at octaves_of b_of y_of round size le lt eq
  one_octaves = refl

  zero_power : from_octaves Zero ≡ gives One
  unfolding E floor_of power_of times_power t_of root root_from p_of round size le lt eq neg
  zero_power = refl

  repeated_one : repeated One (float n) ≡ gives One
  repeated_one = ap (λ (s : Said Float). and_then s (λ o. from_octaves (mul binary64 o (float n)))) one_octaves ∙ ap from_octaves (none_times n few) ∙ zero_power

  near_one : (type : SegmentType) → near_at type start 0 One ≡ item_fraction start start
  unfolding of_int
  near_one Otonal =
      let z : 1 * up (pos 0) * start ≡ start = ap (λ (k : ℕ). k * start) (one-mul (up (pos 0))) ∙ one-mul start in
      let h : mul binary64 One (float start) ≡ round binary64 false start 1 = times false 1 (pos 0) start (omega (arith, s-small)) ∙ ap (λ (k : ℕ). round binary64 false k 1) z in
      ap (λ (x : Float). item_fraction (harmonic_of x) start) h ∙ ap (λ (k : ℕ). item_fraction k start) (harmonic_whole start (omega (arith, s-small)) (round binary64 false start 1) whole)
  near_one Utonal =
      let z : start + 0 ≡ start = omega arith in
      let h : div binary64 (round binary64 false start 1) One ≡ round binary64 false start 1 = quotient start 1 (round binary64 false start 1) One whole (refl, refl) (lit< tt) in
      ap (λ (k : ℕ). item_fraction k (harmonic_of (div binary64 (round binary64 false k 1) One))) z ∙ ap (λ (x : Float). item_fraction start (harmonic_of x)) h
      ∙ ap (λ (k : ℕ). item_fraction start k) (harmonic_whole start (omega (arith, s-small)) (round binary64 false start 1) whole)

  item_one : (type : SegmentType) → item_at type start 0 (Some (step start 0 n some s-small (lit< tt) pos_n few)) n ≡ gives (as_item (item_fraction start start))
  item_one type =
      ap (λ (x : Float). item_at type start 0 (Some x) n) step_one
      ∙ ap (λ (s : Said Float). and_then (and_then s (λ ratio. gives (near_at type start 0 ratio))) (λ f. gives (as_item f))) repeated_one
      ∙ ap (λ (f : Fraction). gives (as_item f)) (near_one type)

  ratio_one : ratio_of (as_item (item_fraction start start)) ≡ gives one_f
  unfolding of_int of_bits le lt eq
  ratio_one = ap computed (self_over start some s-small (round binary64 false start 1) (round binary64 false start 1) whole whole)

  period_one : (type : SegmentType) → 2 ≤ n → PeriodOne type start 0 (Some n)
  period_one type two =
      let m = items_of type start 0 some s-small (lit< tt) (Some n) few (λ e. let z : n ≡ 0 = cc in omega (arith, z, two)) in
      let is = m.last (Some (step start 0 n some s-small (lit< tt) pos_n few)) (steps_said start 0 n some s-small (lit< tt) pos_n few) pos_n (as_item (item_fraction start start)) (item_one type) in
      (two, ap (λ (s : Said (List Item)). and_then s (λ is. ratio_of (last_of (implicit ∷ is)))) m.are ∙ ap ratio_of is ∙ ratio_one)

-- SIZE 0 IN TWO OR MORE DIVISIONS: 18, where there is room
pub empty_beyond : (type : SegmentType) (start n : ℕ) (t : ItemTable) (l : ListTable) → 0 < start → start < 2 ^ 16 → 2 ≤ n → n < 2 ^ 16 → n < room_of t l → made_harmonics t l type start 0 (Some n) ≡ refuses beyond_reach 0
empty_beyond type start n t l some s-small two few room =
    (beyond_reach_when type start 0 (Some n) s-small (lit< tt) few t l).1 (record { some = some; room = room }, inr (period_one start n some s-small (omega (arith, two)) few type two))
