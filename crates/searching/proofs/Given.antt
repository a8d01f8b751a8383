-- A search in a scale that was built or read is never refused but for one item with period 1.0. Assumes nothing.
use mathlib.Core.Path.{◌≡◌, refl, sym, ◌∙◌, ap}
use mathlib.Core.Bool.{Bool, true, false, ◌&&◌}
use mathlib.Core.List.{List, [], ◌∷◌}
use Prim.Native.Nat.{ℕ, zero, suc, ◌-◌, ◌≤◌, ◌<◌}
use native.Mathlib.Nat.{le_of_suc-le-suc, not-suc-le-zero}
use native.Mathlib.Omega.{arith}
use lib.Dec.{eqb, ltb, lit≤}
use lib.IntN.{ℤ, pos}
use lib.ListN.{length, get_or}
use lib.Ieee.{Float, binary64, fits, le, lt, eq, mul, div, of_bits}
use borrow.Author.Tests.{eqb-true, eqb-false, ltb-false}
use Rattle.base.specs.Numbers.{beyond_reach}
use Rattle.base.specs.Said.{Said, gives, refuses, pick, and_then, Accepted}
use Rattle.floats.specs.Floats.{zero_f, one_f}
use Rattle.floats.specs.Ranges.{in_reach, in_search}
use Rattle.floats.proofs.Between.{within_more, within_reach, inverse_within, over_within}
use Rattle.floats.proofs.Ranges.{Within, within_says, search_says}
use Rattle.explog.specs.Rules.{log_of}
use Rattle.pitch.specs.Ratios.{inverse}
use Rattle.sorting.specs.Entries.{Entry}
use Rattle.sorting.proofs.Work.{All}
use Rattle.sorted.specs.Lent.{ratios_of, first_not_below}
use Rattle.scl.specs.Items.{AllHeld}
use Rattle.scl.specs.Table.{are_usable}
use Rattle.scl.specs.declared.Item.{Item}
use Rattle.scl.proofs.Items.{ratio_reach}
use Rattle.scl_tables.specs.Reduce.{reduced_by}
use Rattle.scl_tables.specs.declared.reduction.Reduced.{Reduced}
use Rattle.scl_tables.proofs.Reaches.{log_gives, period_one, reduced_reaches}
use Rattle.scl_tables.proofs.Beyond.{Fine, Leaves, period_ratio}
use Rattle.relative.specs.Scales.{no_entry}
use Rattle.searching.specs.Search.{tolerance, choice, chosen_of, clamped, upper_of, index_of, found_at, nearest_of, search_of}
use Rattle.searching.proofs.Opened.{lastly, chosen_is, picked_at, search_none, search_some}
use Rattle.searching.proofs.Within.{mul_within}

-- a step that goes on from a value
on : {A B : Type 0} (s : Said A) (f : A → Said B) → Accepted s → ((a : A) → Accepted (f a)) → Accepted (and_then s f)
on s f g k = record { value = (k g.value).value; is = ap (λ t. and_then t f) g.is ∙ (k g.value).is }

near_one : Within 1 0 tolerance
unfolding le lt eq of_bits
near_one = within_says 0 0 tolerance refl

-- ---- of two neighbours
module _ (lower upper target : Float) (l : Within 32 32 lower) (u : Within 32 32 upper) (t : Within 64 64 target) where
  up_within : Within 96 96 (div binary64 upper target)
  up_within = over_within {a = 32} {b = 32} {c = 64} {d = 64} (lit≤ tt) (lit≤ tt) u t

  down_within : Within 96 96 (div binary64 target lower)
  down_within = over_within {a = 64} {b = 64} {c = 32} {d = 32} (lit≤ tt) (lit≤ tt) t l

  bound_within : Within 97 96 (mul binary64 (div binary64 target lower) tolerance)
  bound_within = mul_within {a = 96} {b = 96} {c = 1} {d = 0} (lit≤ tt) (lit≤ tt) down_within near_one

  up_reach : in_reach (div binary64 upper target) ≡ true
  up_reach = within_reach (within_more (lit≤ tt) (lit≤ tt) up_within)

  turned_reach : in_reach (div binary64 one_f (div binary64 upper target)) ≡ true
  turned_reach = within_reach (within_more (lit≤ tt) (lit≤ tt) (inverse_within {a = 96} {b = 96} (lit≤ tt) (lit≤ tt) up_within))

  turned_is : inverse (div binary64 upper target) ≡ gives (div binary64 one_f (div binary64 upper target))
  turned_is = rw (up_reach, turned_reach)

  last : (b : Bool) → Accepted (pick b (gives (choice false (div binary64 target lower))) (and_then (inverse (div binary64 upper target)) (λ turned. gives (choice true turned))))
  last true = record { value = choice false (div binary64 target lower); is = refl }
  last false = on (inverse (div binary64 upper target)) (λ turned. gives (choice true turned)) (record { value = div binary64 one_f (div binary64 upper target); is = turned_is }) (λ turned. record { value = choice true turned; is = refl })

  all_reach : ((in_reach (div binary64 upper target) && in_reach (div binary64 target lower)) && in_reach (mul binary64 (div binary64 target lower) tolerance)) ≡ true
  all_reach = rw (up_reach, within_reach (within_more (lit≤ tt) (lit≤ tt) down_within), within_reach (within_more (lit≤ tt) (lit≤ tt) bound_within)) refl

  pub chosen_given : Accepted (chosen_of lower upper target)
  chosen_given =
      let x = last (lt (mul binary64 (div binary64 target lower) tolerance) (div binary64 upper target)) in
      record {
        value = x.value;
        is =
            chosen_is lower upper target (within_reach (within_more (lit≤ tt) (lit≤ tt) l)) (within_reach (within_more (lit≤ tt) (lit≤ tt) u)) (within_reach (within_more (lit≤ tt) (lit≤ tt) t))
            ∙ ap (λ (b : Bool). pick b (lastly (div binary64 upper target) (div binary64 target lower) (mul binary64 (div binary64 target lower) tolerance)) (refuses beyond_reach 0)) all_reach ∙ x.is;
      }

-- ---- in a list
fine_at : (n : ℕ) (es : List Entry) (i : ℕ) → All (Fine n) es → i < length es → Within 32 32 (get_or es i no_entry).ratio
fine_at n [] i a l = absurd (not-suc-le-zero l)
fine_at n (e ∷ es) zero a l = a.0.0
fine_at n (e ∷ es) (suc i) a l = fine_at n es i a.1 (le_of_suc-le-suc l)

pub clamped_in : (last n : ℕ) → 0 < last → (0 < clamped last n) × (clamped last n ≤ last)
clamped_in last n h = go (eqb n 0) (ltb last n) refl refl
  where
    go : (x y : Bool) → eqb n 0 ≡ x → ltb last n ≡ y → (0 < pick x 1 (pick y last n)) × (pick x 1 (pick y last n) ≤ last)
    go true y e k = (omega arith, omega (arith, h))
    go false true e k = (h, omega arith)
    go false false e k = let z = eqb-false n 0 e in (omega (arith, z), ltb-false last n k)

pub nearest_given : (n : ℕ) (es : List Entry) (periods : ℤ) (target : Float) → 1 < length es → All (Fine n) es → Within 64 64 target → Accepted (nearest_of es periods target)
unfolding nearest_of
nearest_given n es periods target two a t =
    let at = upper_of es target in
    let c = clamped_in (length es - 1) (first_not_below (ratios_of es) target) (omega (arith, two)) in
    on (chosen_of (get_or es (at - 1) no_entry).ratio (get_or es at no_entry).ratio target) (picked_at es periods at)
    (chosen_given (get_or es (at - 1) no_entry).ratio (get_or es at no_entry).ratio target (fine_at n es (at - 1) a (omega (arith, c.1, two))) (fine_at n es at a (omega (arith, c.1, two))) t)
    (λ x. record { value = found_at (get_or es (index_of at x.upper) no_entry) (index_of at x.upper) periods x.deviation; is = refl })

-- ---- in a scale
module _ (items : List Item) (some : 0 < length items) (h : AllHeld items) (u : are_usable items ≡ true) (es : List Entry) (leaves : Leaves items es) (x : Float) (fx : fits binary64 x ≡ true) (sx : in_search x ≡ true) where
  abbrev period : Float
  period = (period_ratio items some h u).value

  reach : in_reach period ≡ true
  reach = ratio_reach (lit≤ tt) (period_ratio items some h u) (sym (period_ratio items some h u).is)

  one : eq (log_of period) zero_f ≡ true → period ≡ one_f
  one e = (period_one period (log_of period) (period_ratio items some h u).held (log_gives period reach)).0 e

  two : (length items - 1 ≡ 0 → ⊥) → 1 < length es
  two n = omega (arith, n, leaves.size)

  rest : (length items - 1 ≡ 0 → ⊥) → Accepted (and_then (reduced_by period x) (λ y. nearest_of es y.wraps y.ratio))
  rest n =
      let r = reduced_reaches 64 period x (lit≤ tt) (period_ratio items some h u).held fx (within_more (lit≤ tt) (lit≤ tt) (period_ratio items some h u).between) (search_says x sx) in
      let g = nearest_given (length items) es r.value.wraps r.value.ratio (two n) leaves.entries r.between in
      record { value = g.value; is = ap (λ (s : Said Reduced). and_then s (λ y. nearest_of es y.wraps y.ratio)) r.is ∙ g.is }

  pub search_given : (length items ≡ 2 → period ≡ one_f → ⊥) → Accepted (search_of items es x)
  search_given except = go (eqb (length items - 1) 0) refl
    where
      tested : (n : length items - 1 ≡ 0 → ⊥) (b c : Bool) → eqb (length items - 1) 1 ≡ b → eq (log_of period) zero_f ≡ c → Accepted (pick (b && c) (refuses beyond_reach 0) (and_then (reduced_by period x) (λ y. nearest_of es y.wraps y.ratio)))
      tested n true true e k = absurd (except (let z = eqb-true (length items - 1) 1 e in omega (arith, z)) (one k))
      tested n true false e k = rest n
      tested n false c e k = rest n

      go : (b : Bool) → eqb (length items - 1) 0 ≡ b → Accepted (search_of items es x)
      go true e = record { value = found_at (get_or es 0 no_entry) 0 (pos 0) x; is = sym (search_none items es (length items - 1) x refl (eqb-true (length items - 1) 0 e)) }
      go false e =
          let n = eqb-false (length items - 1) 0 e in
          let t = tested n (eqb (length items - 1) 1) (eq (log_of period) zero_f) refl refl in
          record { value = t.value; is = search_some items es (length items - 1) x refl {period = period} {size = log_of period} (eqb (length items - 1) 1) n refl (sym (period_ratio items some h u).is) (log_gives period reach) ∙ t.is }
