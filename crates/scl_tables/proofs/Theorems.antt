-- What the sorted list of a scale is, when there is none, and what a reduction gives. Document 01, "Scales and searches". Assumes nothing.
use mathlib.Core.Path.{◌≡◌, refl, sym, ◌∙◌, ap, subst}
use mathlib.Core.Logic.{◌↔◌}
use mathlib.Core.Bool.{true}
use mathlib.Core.List.{List, [], ◌∷◌, ◌++◌}
use Prim.Native.Nat.{ℕ, zero, suc, ◌+◌, ◌≤◌, ◌<◌}
use native.Mathlib.Nat.{le_of_suc-le-suc, not-suc-le-zero}
use native.Mathlib.Omega.{arith}
use lib.ListN.{length, take, drop, length-append}
use lib.Ieee.{Float, binary64, fits}
use lib.Dec.{lit≤}
use Rattle.base.specs.Numbers.{beyond_reach}
use Rattle.base.specs.Said.{gives, refuses, Said, One}
use Rattle.base.specs.Tables.{over}
use Rattle.base.proofs.Said.{one_result, same_value}
use Rattle.floats.specs.Floats.{one_f}
use Rattle.sorting.specs.Entries.{Entry}
use Rattle.sorting.proofs.Columns.{zip_columns}
use Rattle.sorting.proofs.Work.{All}
use Rattle.sorted.specs.Lent.{ListTable, places_of, ratios_of, wraps_of, list_in, AllAtMost, is_list}
use Rattle.sorted.proofs.Lists.{have_list_law, at_within}
use Rattle.scl.specs.Items.{ratio_of, AllHeld}
use Rattle.scl.specs.Table.{ItemTable, are_usable, written_at}
use Rattle.scl.specs.declared.Item.{Item}
use Rattle.floats.specs.Ranges.{in_reach}
use Rattle.floats.proofs.Between.{within_reach}
use Rattle.floats.proofs.Ranges.{reach_says}
use Rattle.explog.specs.Rules.{L}
use Rattle.scl_tables.specs.Build.{last_of, count_of, sorted_of, scale_of, is_beyond, after_list}
use Rattle.scl_tables.specs.Room.{room_of}
use Rattle.scl_tables.proofs.Beyond.{Fine, Leaves, period_ratio, beyond_is, within_is, sorted_given, sorted_leaves}
use Rattle.scl_tables.specs.Reduce.{IsPeriod, reduced_by}
use Rattle.scl_tables.specs.declared.reduction.Period.{Period}
use Rattle.scl_tables.specs.declared.reduction.Reduced.{Reduced}
use Rattle.scl_tables.proofs.Reaches.{reduced_reaches}

module _ (items : List Item) (some : 0 < length items) (h : AllHeld items) (u : are_usable items ≡ true) where
  -- "Reading or building a scale of two or more items gives 18 [..] exactly when L(period) = 0, a wraparound count leaves i32, or
  -- reduction computes a ratio outside 2^-900..2^900": exactly when the period is 1.0
  pub beyond_reach_is : (scale_of items ≡ refuses beyond_reach 0) ↔ ((2 ≤ count_of items) × (ratio_of (last_of items) ≡ gives one_f))
  beyond_reach_is =
      let t = period_ratio items some h u in
      let b = beyond_is items some h u in
      (λ e. ((b.0 e).0, t.is ∙ (λ j. gives ((b.0 e).1 j))), λ e. b.1 (e.0, same_value t.value one_f (sym t.is ∙ e.1)))

  -- "a scale of one item never does", nor one of none
  pub one_item_never : count_of items < 2 → scale_of items ≡ sorted_of items
  one_item_never few = within_is items some h u (λ two e. omega (arith, few, two))

  -- and then there is a list: no wraparound count leaves i32, no reduced ratio leaves 2^-900..2^900
  pub list_given : (es : List Entry) × (sorted_of items ≡ gives es)
  list_given = (_, sorted_given items some h u)

  pub list_leaves : (es : List Entry) → sorted_of items ≡ gives es → Leaves items es
  list_leaves = sorted_leaves items some h u

-- ---- what is left in the columns passes the test of a lent list
take_front : {A : Type 0} (new rest : List A) (n : ℕ) → length new ≡ n → take n (new ++ rest) ≡ new
take_front [] rest zero e = refl
take_front [] rest (suc n) e = absurd (omega arith)
take_front (x ∷ new) rest zero e = absurd (omega arith)
take_front {A} (x ∷ new) rest (suc n) e = ap (λ (l : List A). x ∷ l) (take_front new rest n (omega arith))

take_over : {A : Type 0} (new old : List A) (n : ℕ) → length new ≡ n → take n (over old new) ≡ new
take_over new old n e = take_front new (drop (length new) old) n e

room_over : {A : Type 0} (new old : List A) (n : ℕ) → length new ≡ n + 1 → n < length (over old new)
room_over new old n e = omega (arith, e, length-append new (drop (length new) old))

length_column : {A : Type 0} (f : Entry → A) (es : List Entry) → length (mathlib.Core.List.map f es) ≡ length es
length_column f es = lib.ListN.length-map es f

within_places : (n : ℕ) (es : List Entry) → All (Fine (suc n)) es → AllAtMost n (places_of es)
within_places n [] a i l = absurd (not-suc-le-zero l)
within_places n (e ∷ es) a zero l = omega (arith, a.0.1)
within_places n (e ∷ es) a (suc i) l = within_places n es a.1 i (le_of_suc-le-suc l)

pub left_list : (count : ℕ) (items : List Item) (es : List Entry) (l : ListTable) → length items ≡ count + 1 → Leaves items es → is_list count (after_list (gives es) l) ≡ true
left_list count items es l n v =
    let m : length es ≡ count + 1 = v.size ∙ n in
    let lp = length_column (λ (e : Entry). e.place) es ∙ m in
    let lr = length_column (λ (e : Entry). e.ratio) es ∙ m in
    let lw = length_column (λ (e : Entry). e.wraps) es ∙ m in
    let list : list_in count (after_list (gives es) l) ≡ es =
    rw (take_over (places_of es) l.places (count + 1) lp, take_over (ratios_of es) l.ratios (count + 1) lr, take_over (wraps_of es) l.wraps (count + 1) lw)
    (zip_columns (record { places = refl; ratios = refl; wraps = refl })) in
    let fine : All (Fine (suc count)) es = subst (λ (k : ℕ). All (Fine k) es) (n ∙ omega arith) v.entries in
    rw (have_list_law count (after_list (gives es) l) (room_over (places_of es) l.places count lp) (room_over (ratios_of es) l.ratios count lr) (room_over (wraps_of es) l.wraps count lw), list, v.ratios)
    (at_within count (places_of es) (within_places count es fine))

-- ---- two results of one input are equal: what is written
pub room_of_one : (t : ItemTable) (l : ListTable) → One (λ r. r) (room_of t l)
room_of_one t l = one_result (room_of t l)

pub write_item_one : (t : ItemTable) (at : ℕ) (i : Item) → One (λ r. r) (written_at t at i)
write_item_one t at i = one_result (written_at t at i)

pub build_list_one : (items : List Item) (l : ListTable) → One (λ r. r) (after_list (sorted_of items) l)
build_list_one items l = one_result (after_list (sorted_of items) l)

pub is_beyond_one : (count : ℕ) (last : Item) → One (λ r. r) (is_beyond count last)
is_beyond_one count last = one_result (is_beyond count last)

-- of ratios in 2^-900..2^900 no reduction gives 18, and the reduced ratio lies there too
pub reduction_given : (period ratio : Float) → fits binary64 period ≡ true → fits binary64 ratio ≡ true → in_reach period ≡ true → in_reach ratio ≡ true
    → (x : Reduced) × ((reduced_by period ratio ≡ gives x) × (in_reach x.ratio ≡ true))
reduction_given period ratio fp fr p r =
    let t = reduced_reaches 900 period ratio (lit≤ tt) fp fr (reach_says period p) (reach_says ratio r) in
    (t.value, (t.is, within_reach t.between))

-- ---- two results of one input are equal: ratios and reductions
given_one : {A : Type 0} (s : Said A) → One gives s
given_one s x y p q = same_value x y (p ∙ sym q)

pub ratio_of_one : (i : Item) → One gives (ratio_of i)
ratio_of_one i = given_one (ratio_of i)

pub reduce_one : (period ratio : Float) → One gives (reduced_by period ratio)
reduce_one period ratio = given_one (reduced_by period ratio)

pub period_of_one : (ratio : Float) (x y : Period) → (x.ratio ≡ ratio) × IsPeriod x → (y.ratio ≡ ratio) × IsPeriod y → x ≡ y
period_of_one ratio x y p q =
    let r : x.ratio ≡ y.ratio = p.0 ∙ sym q.0 in
    let o : x.octaves ≡ y.octaves = same_value x.octaves y.octaves (sym p.1.octaves ∙ (λ i. L (r i)) ∙ q.1.octaves) in
    λ i. record { ratio = r i; octaves = o i }
