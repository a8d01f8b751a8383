-- Which refusals relative pitches and pitches above a root leave, and that each call has one result. Document 01, "Scales and
-- searches". Assumes nothing.
use mathlib.Core.Path.{◌≡◌, refl, sym, ◌∙◌, ap}
use mathlib.Core.Bool.{Bool, true, false}
use mathlib.Core.List.{List}
use Prim.Native.Nat.{ℕ, ◌≤◌, zero, suc, ◌<◌}
use native.Mathlib.Omega.{arith}
use lib.Dec.{eqb, leb, lit≤}
use lib.IntN.{ℤ, pos, negsuc, ◌-ℤ◌}
use lib.ListN.{get_or}
use lib.Ieee.{Float, binary64, mul, div}
use borrow.Author.Tests.{eqb-true, eqb-false, lt-ltb, le-leb}
use mathlib.Core.Logic.{◌⊎◌, inl, inr}
use lib.Signed.{mag}
use Rattle.base.specs.Numbers.{unusable, overflow}
use Rattle.base.specs.Said.{Said, gives, refuses, and_then, One, outcome}
use Rattle.base.proofs.Said.{one_result, same_value, no_value, same_refuses}
use Rattle.floats.specs.Ranges.{in_reach}
use Rattle.pitch.specs.Answers.{says_ratio, says_pitch}
use Rattle.pitch.proofs.Theorems.{ratio_one, pitch_one}
use Rattle.sorting.specs.Entries.{Entry}
use Rattle.sorted.specs.Lent.{ListTable, list_in, is_list}
use Rattle.scl.specs.Items.{ratio_of, Reached}
use Rattle.scl.specs.Table.{ItemTable, Typed, no_item, items_in, is_items}
use Rattle.scl.specs.declared.Item.{Item}
use Rattle.scl.proofs.Items.{ratio_reached}
use Rattle.scl.proofs.Table.{items_usable}
use Rattle.scl.proofs.Typed.{typed_held}
use Rattle.scl_tables.specs.Build.{last_of, count_of}
use Rattle.scl_tables.proofs.Beyond.{period_ratio}
use Rattle.base.specs.Integers.{in_i32, held}
use Rattle.integer_math.proofs.Theorems.{i32_one}
use Rattle.floats.proofs.Between.{within_more, within_reach}
use Rattle.floats.proofs.Ranges.{pitch_says}
use Rattle.pitch.specs.Pitches.{pitch_times, pitch_over}
use Rattle.kbm.specs.Root.{is_root}
use Rattle.kbm.specs.declared.KbmRoot.{KbmRoot}
use Rattle.relative.specs.Refusals.{ReachedOrBeyond}
use Rattle.relative.specs.Relative.{periods_of, place_of, stretched, relative_pitch_of, sorted_relative_pitch_of}
use Rattle.relative.specs.Scales.{no_entry, tested, is_scale}
use Rattle.relative.proofs.Opened.{place_none, place_some}
use Rattle.relative.proofs.Places.{items_length, items_count, list_at, ratio_reach}
use Rattle.relative.proofs.Refusals.{and_reached, item_reached, stretched_reached, move, computed_reached}
use Rattle.relative.specs.Pitches.{root_degree, root_pitch, above, pitch_from, sorted_pitch_from, pitch_of, sorted_pitch_of}
use Rattle.relative.specs.RootedRefusals.{Pitched, pitched, unturned}

-- the place of a degree is one of the scale's
pub place_le : (count : ℕ) (d : ℤ) → place_of count d ≤ count
place_le count d = go (eqb count 0) refl
  where
    go : (b : Bool) → eqb count 0 ≡ b → place_of count d ≤ count
    go true e = let t = place_none count d (eqb-true count 0 e) in omega (arith, t.0, t.1)
    go false e = let t = place_some count d (eqb-false count 0 e) in omega (arith, t.0, t.1)

-- ---- refusals: 10 for the tables, then 18 alone
pub relative_refusals : (items : List Item) (d : ℤ) → ReachedOrBeyond (relative_pitch_of items d)
unfolding relative_pitch_of
relative_refusals items d =
    let q = periods_of (count_of items) d in
    let it = get_or items (place_of (count_of items) d) no_item in
    and_reached (λ p. and_then (ratio_of it) (λ r. stretched p q r)) (item_reached (last_of items)) (λ p hp. and_reached (λ r. stretched p q r) (item_reached it) (λ r hr. stretched_reached p q r hp hr))

-- an entry's ratio at its place
entry_reach : (count : ℕ) (l : ListTable) → is_list count l ≡ true → (i : ℕ) → i ≤ count → in_reach (get_or (list_in count l) i no_entry).ratio ≡ true
entry_reach count l h i k = rw (list_at count l h i k) (ratio_reach count l h i k)

module _ (count : ℕ) (t : ItemTable) where
  -- "Before all else a call on lent tables gives 10 unless ..": then nothing but 18
  pub items_refused : (s : Said Float) → is_items count t ≡ false → tested (is_items count t) s ≡ refuses unusable 0
  items_refused s h = rw h

  pub period_refusals : is_items count t ≡ true → ReachedOrBeyond (tested (is_items count t) (ratio_of (last_of (items_in count t))))
  period_refusals h = rw h (item_reached (last_of (items_in count t)))

  -- of columns of u32, as a call lends them, the period lies in 2^-32..2^32: 10 is its one refusal, exactly for the tables
  module _ (typed : Typed t) where
    pub period_reached : is_items count t ≡ true → Reached (tested (is_items count t) (ratio_of (last_of (items_in count t))))
    period_reached h = rw h (ratio_reached (period_ratio (items_in count t) (omega (arith, items_length count t h)) (typed_held t typed count) (items_usable count t h)))

    pub period_refused : (n d : ℕ) → tested (is_items count t) (ratio_of (last_of (items_in count t))) ≡ refuses n d → (is_items count t ≡ false) × (n ≡ unusable) × (d ≡ 0)
    period_refused n d e = go (is_items count t) refl
      where
        go : (b : Bool) → is_items count t ≡ b → (is_items count t ≡ false) × (n ≡ unusable) × (d ≡ 0)
        go true h = no_value (sym e ∙ (period_reached h).is)
        go false h = let r = same_refuses (sym (items_refused (ratio_of (last_of (items_in count t))) h) ∙ e) in (h, sym r.0, sym r.1)

  pub relative_pitch_refusals : (d : ℤ) → is_items count t ≡ true → ReachedOrBeyond (tested (is_items count t) (relative_pitch_of (items_in count t) d))
  relative_pitch_refusals d h = rw h (relative_refusals (items_in count t) d)

  module _ (l : ListTable) (h : is_items count t ≡ true) (k : is_list count l ≡ true) where
    pub sorted_refusals : (d : ℤ) → ReachedOrBeyond (sorted_relative_pitch_of (items_in count t) (list_in count l) d)
    unfolding sorted_relative_pitch_of
    sorted_refusals d =
        let q = periods_of (count_of (items_in count t)) d in
        let at = place_of (count_of (items_in count t)) d in
        let r = (get_or (list_in count l) at no_entry).ratio in
        let in_list : at ≤ count = omega (arith, place_le (count_of (items_in count t)) d, items_count count t h) in
        and_reached (λ p. stretched p q r) (item_reached (last_of (items_in count t))) (λ p hp. stretched_reached p q r hp (entry_reach count l k at in_list))

    pub sorted_relative_pitch_refusals : (d : ℤ) → ReachedOrBeyond (tested (is_scale count t l) (sorted_relative_pitch_of (items_in count t) (list_in count l) d))
    sorted_relative_pitch_refusals d = rw (h, k) (sorted_refusals d)

-- ---- two results of one input are equal: relative pitches
pub period_one : (count : ℕ) (t : ItemTable) → One says_ratio (tested (is_items count t) (ratio_of (last_of (items_in count t))))
period_one count t = ratio_one (tested (is_items count t) (ratio_of (last_of (items_in count t))))

pub relative_pitch_of_one : (count : ℕ) (t : ItemTable) (d : ℤ) → One says_ratio (tested (is_items count t) (relative_pitch_of (items_in count t) d))
relative_pitch_of_one count t d = ratio_one (tested (is_items count t) (relative_pitch_of (items_in count t) d))

pub sorted_relative_pitch_of_one : (count : ℕ) (t : ItemTable) (l : ListTable) (d : ℤ) → One says_ratio (tested (is_scale count t l) (sorted_relative_pitch_of (items_in count t) (list_in count l) d))
sorted_relative_pitch_of_one count t l d = ratio_one (tested (is_scale count t l) (sorted_relative_pitch_of (items_in count t) (list_in count l) d))

-- the inner calls too
pub ratio_at_one : (count : ℕ) (t : ItemTable) (i : ℕ) → One gives (ratio_of (get_or (items_in count t) i no_item))
ratio_at_one count t i x y p q = same_value x y (p ∙ sym q)

pub relative_at_one : (items : List Item) (d : ℤ) → One says_ratio (relative_pitch_of items d)
relative_at_one items d = ratio_one (relative_pitch_of items d)

pub sorted_relative_at_one : (items : List Item) (es : List Entry) (d : ℤ) → One says_ratio (sorted_relative_pitch_of items es d)
sorted_relative_at_one items es d = ratio_one (sorted_relative_pitch_of items es d)

pub is_scale_one : (count : ℕ) (t : ItemTable) (l : ListTable) → One (λ r. r) (is_scale count t l)
is_scale_one count t l = one_result (is_scale count t l)

-- ---- the root's degree
minus_pos : (a : ℕ) → pos 0 -ℤ pos (suc a) ≡ negsuc a
minus_pos a = simp (lt-ltb 0 (suc a) (omega arith)) (ap negsuc (omega arith))

minus_neg : (a : ℕ) → pos 0 -ℤ negsuc a ≡ pos (suc a)
minus_neg a = ap pos (omega arith)

-- an offset of 32 bits, but for the lowest, is turned over
turned : (z : ℤ) → mag z < 2147483648 → (z ≡ negsuc 2147483647 → ⊥) → in_i32 (pos 0 -ℤ z) ≡ true
turned (pos zero) m n = refl
turned (pos (suc a)) m n = rw (minus_pos a, le-leb a 2147483647 (omega (arith, m))) refl
turned (negsuc a) m n = ap in_i32 (minus_neg a) ∙ go (eqb a 2147483647) refl
  where
    go : (b : Bool) → eqb a 2147483647 ≡ b → leb (suc a) 2147483647 ≡ true
    go true e = absurd (n (ap negsuc (eqb-true a 2147483647 e)))
    go false e = let k = eqb-false a 2147483647 e in le-leb (suc a) 2147483647 (omega (arith, k, m))

lowest : (z : ℤ) → (z ≡ negsuc 2147483647) ⊎ (z ≡ negsuc 2147483647 → ⊥)
lowest (pos a) = inr (λ e. let z : ◌≡◌ {A = ℕ} 0 1 = cc in absurd (omega arith))
lowest (negsuc a) = go (eqb a 2147483647) refl
  where
    go : (b : Bool) → eqb a 2147483647 ≡ b → (negsuc a ≡ negsuc 2147483647) ⊎ (negsuc a ≡ negsuc 2147483647 → ⊥)
    go true e = inl (ap negsuc (eqb-true a 2147483647 e))
    go false e = inr (λ k. eqb-false a 2147483647 e cc)

module _ (root : KbmRoot) where
  -- "A root offset of -2147483648 gives 11"
  pub offset_refused : root.offset ≡ negsuc 2147483647 → root_degree root ≡ refuses overflow 0
  unfolding held
  offset_refused e = rw e refl

  -- and no other of 32 bits does
  pub offset_turned : mag root.offset < 2147483648 → (root.offset ≡ negsuc 2147483647 → ⊥) → root_degree root ≡ gives (pos 0 -ℤ root.offset)
  unfolding held
  offset_turned m n = rw (turned root.offset m n)

-- ---- refusals of a pitch above a root: 11 for the offset, then 18 alone
module _ (items : List Item) (hz : Float) (h : in_reach hz ≡ true) where
  pub root_reached : (at : ℤ) → ReachedOrBeyond (root_pitch items hz at)
  unfolding root_pitch
  root_reached at = and_reached (pitch_over hz) (relative_refusals items at) (λ x r. move (rw (h, r) refl) (computed_reached (div binary64 hz x)))

  above_reached : {ratio : Said Float} → ReachedOrBeyond ratio → (at : ℤ) → ReachedOrBeyond (above (root_pitch items hz at) ratio)
  above_reached {ratio} k at = and_reached (λ first. and_then ratio (pitch_times first)) (root_reached at) (λ first r. and_reached (pitch_times first) k (λ x q. move (rw (r, q) refl) (computed_reached (mul binary64 first x))))

  pub from_reached : (at d : ℤ) → ReachedOrBeyond (pitch_from items hz at d)
  unfolding pitch_from
  from_reached at d = above_reached (relative_refusals items d) at

  pub sorted_from_reached : (es : List Entry) (at d : ℤ) → ReachedOrBeyond (sorted_relative_pitch_of items es d) → ReachedOrBeyond (sorted_pitch_from items es hz at d)
  unfolding sorted_pitch_from
  sorted_from_reached es at d k = above_reached k at

-- a usable root's pitch lies in 2^-900..2^900
pub hz_reach : (root : KbmRoot) → is_root root ≡ true → in_reach root.pitch.0 ≡ true
hz_reach root o = within_reach (within_more (lit≤ tt) (lit≤ tt) (pitch_says root.pitch.0 o))

module _ (root : KbmRoot) (o : is_root root ≡ true) (m : mag root.offset < 2147483648) where
  -- 11 exactly for the lowest offset, then 18
  after_offset : (f : ℤ → Said Float) → ((at : ℤ) → ReachedOrBeyond (f at)) → Pitched root (and_then (root_degree root) f)
  after_offset f r = elim (lowest root.offset) [
    | inl e ↦ unturned e (ap (λ (s : Said ℤ). and_then s f) (offset_refused root e))
    | inr n ↦ pitched n (move (ap (λ (s : Said ℤ). and_then s f) (offset_turned root m n)) (r (pos 0 -ℤ root.offset)))
  ]

  -- the pitch of a degree above a usable root is never refused by 10
  pub pitch_refusals : (items : List Item) (d : ℤ) → Pitched root (pitch_of items root d)
  unfolding pitch_of
  pitch_refusals items d =
      let hz = root.pitch.0 in
      after_offset (λ at. pitch_from items hz at d) (λ at. from_reached items hz (hz_reach root o) at d)

  pub sorted_pitch_refusals : (items : List Item) (es : List Entry) (d : ℤ) → ReachedOrBeyond (sorted_relative_pitch_of items es d) → Pitched root (sorted_pitch_of items es root d)
  unfolding sorted_pitch_of
  sorted_pitch_refusals items es d k =
      let hz = root.pitch.0 in
      after_offset (λ at. sorted_pitch_from items es hz at d) (λ at. sorted_from_reached items hz (hz_reach root o) es at d k)

-- ---- two results of one input are equal: pitches above a root
pub root_degree_one : (root : KbmRoot) → One outcome (root_degree root)
root_degree_one root = i32_one (root_degree root)

pub root_pitch_one : (items : List Item) (hz : Float) (at : ℤ) → One says_pitch (root_pitch items hz at)
root_pitch_one items hz at = pitch_one (root_pitch items hz at)

pub pitch_at_one : (items : List Item) (hz : Float) (at d : ℤ) → One says_pitch (pitch_from items hz at d)
pitch_at_one items hz at d = pitch_one (pitch_from items hz at d)

pub sorted_pitch_at_one : (items : List Item) (es : List Entry) (hz : Float) (at d : ℤ) → One says_pitch (sorted_pitch_from items es hz at d)
sorted_pitch_at_one items es hz at d = pitch_one (sorted_pitch_from items es hz at d)

pub degree_pitch_one : (items : List Item) (root : KbmRoot) (d : ℤ) → One says_pitch (pitch_of items root d)
degree_pitch_one items root d = pitch_one (pitch_of items root d)

pub sorted_degree_pitch_one : (items : List Item) (es : List Entry) (root : KbmRoot) (d : ℤ) → One says_pitch (sorted_pitch_of items es root d)
sorted_degree_pitch_one items es root d = pitch_one (sorted_pitch_of items es root d)

pub times_answer_one : (hz : Float) (ratio : Said Float) → One says_pitch (and_then ratio (pitch_times hz))
times_answer_one hz ratio = pitch_one (and_then ratio (pitch_times hz))
