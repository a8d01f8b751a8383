-- When a scale is beyond reach: "18 [..] exactly when L(period) = 0, a wraparound count leaves i32, or reduction computes a ratio
-- outside 2^-900..2^900" comes to one look at the last item. Assumes nothing.
use mathlib.Core.Path.{◌≡◌, refl, sym, ◌∙◌, ap, subst}
use mathlib.Core.Bool.{Bool, true, false, ◌&&◌}
use mathlib.Core.Logic.{◌↔◌}
use mathlib.Core.List.{List, [], ◌∷◌, map}
use Prim.Native.Nat.{ℕ, zero, suc, ◌+◌, ◌-◌, ◌≤◌, ◌<◌}
use native.Mathlib.Nat.{le_of_suc-le-suc, not-suc-le-zero}
use native.Mathlib.Omega.{arith}
use lib.Dec.{leb, lit≤}
use lib.ListN.{length, get_or, set, length-set}
use borrow.Author.Tests.{leb-true, le-leb, lt-leb}
use lib.IntN.{pos}
use lib.Ieee.{Float, binary64, fits, eq, le, div, of_int}
use Rattle.base.specs.Numbers.{beyond_reach}
use Rattle.base.specs.Said.{Said, gives, refuses, pick, and_then, Accepted}
use Rattle.base.proofs.Said.{same_value}
use Rattle.floats.specs.Floats.{zero_f, one_f}
use Rattle.floats.specs.Ranges.{in_reach}
use Rattle.floats.proofs.Ranges.{Within}
use Rattle.explog.specs.Rules.{E, L, log_of}
use Rattle.pitch.specs.Given.{computed}
use Rattle.pitch.specs.Ratios.{inverse, cents_f}
use Rattle.sorting.specs.Entries.{Entry}
use Rattle.sorted.specs.Lent.{usable}
use Rattle.sorted.specs.Repeats.{arranged}
use Rattle.sorting.proofs.Work.{All}
use Rattle.sorted.proofs.Facts.{arranged_length, arranged_all}
use Rattle.sorted.proofs.Usable.{InReach, arranged_usable}
use Rattle.scl.specs.Items.{is_usable, denom_of, ratio_of, Held, AllHeld}
use Rattle.scl.specs.Table.{are_usable, no_item}
use Rattle.scl_tables.specs.Reduce.{reduced_by}
use Rattle.scl_tables.specs.Build.{entry, reduced_entry, entries_from, overridden, last_of, count_of, sorted_of, scale_of, is_none, is_beyond}
use Rattle.scl.specs.declared.Item.{Item}
use Rattle.scl.specs.declared.Item.TheVariants.{Cents, Fraction}
use Rattle.scl_tables.specs.declared.reduction.Reduced.{Reduced}
use Rattle.scl_tables.proofs.Answered.{never}
use Rattle.scl.proofs.Items.{Ratio, item_ratio, ratio_reach}
use Rattle.scl.proofs.Table.{both, usable_at}
use Rattle.scl_tables.proofs.Override.{turned}
use Rattle.floats.proofs.Between.{inverse_within, within_more, within_reach}
use Rattle.scl_tables.proofs.Reaches.{log_gives, period_one, Reaches, reduced_reaches}

-- a step that goes on from what is accepted
abbrev on : {A B : Type 0} {s : Said A} (f : A → Said B) (g : Accepted s) → Accepted (f g.value) → Accepted (and_then s f)
on f g k = record { value = k.value; is = ap (λ t. and_then t f) g.is ∙ k.is }

abbrev at : {A : Type 0} (a : A) → Accepted (gives a)
at a = record { value = a; is = refl }

held_at : (items : List Item) (i : ℕ) → AllHeld items → i < length items → Held (get_or items i no_item)
held_at [] i h l = absurd (not-suc-le-zero l)
held_at (x ∷ items) zero h l = h.0
held_at (x ∷ items) (suc i) h l = held_at items i h.1 (le_of_suc-le-suc l)

-- ---- entries
-- an entry of a list of n: its ratio in 2 ^ -32..2 ^ 32, its place below n
abbrev pub Fine : ℕ → Entry → Type 0
Fine n e = Within 32 32 e.ratio × (e.place < n)

-- m such entries are given
pub record Listed (n m : ℕ) (s : Said (List Entry)) : Type 0 where
  pub given : Accepted s
  pub size : length given.value ≡ m
  pub fine : All (Fine n) given.value

all_set : (n : ℕ) (es : List Entry) (i : ℕ) (e : Entry) → Fine n e → All (Fine n) es → All (Fine n) (set es i e)
all_set n [] i e h a = a
all_set n (x ∷ es) zero e h a = (h, a.1)
all_set n (x ∷ es) (suc i) e h a = (a.0, all_set n es i e h a.1)

all_reach : (n : ℕ) (es : List Entry) → All (Fine n) es → All InReach es
all_reach n [] a = a
all_reach n (e ∷ es) a = (within_reach (within_more (lit≤ tt) (lit≤ tt) a.0.0), all_reach n es a.1)

module _ (period : Float) (fp : fits binary64 period ≡ true) (p : Within 32 32 period) where
  module _ (k : ℕ) (i : Item) (h : Held i) (u : is_usable i ≡ true) where
    ratio_given : Ratio 32 (ratio_of i)
    ratio_given = item_ratio i h u

    reduced_given : Reaches 32 (reduced_by period ratio_given.value)
    reduced_given = reduced_reaches 32 period ratio_given.value (lit≤ tt) fp ratio_given.held p ratio_given.between

    abbrev it : Entry
    it = entry k reduced_given.value.ratio reduced_given.value.wraps

    entry_is : reduced_entry period k i ≡ gives it
    entry_is =
        ap (λ s. and_then s (λ ratio. and_then (reduced_by period ratio) (λ y. gives (entry k y.ratio y.wraps)))) ratio_given.is
        ∙ ap (λ s. and_then s (λ (y : Reduced). gives (entry k y.ratio y.wraps))) reduced_given.is

  -- no entry is refused
  pub entries_given : (n k : ℕ) (items : List Item) → k + length items ≤ n → AllHeld items → are_usable items ≡ true → Listed n (length items) (entries_from period k items)
  unfolding are_usable
  entries_given n k [] l h u = record { given = at []; size = refl; fine = tt }
  entries_given n k (i ∷ items) l h u =
      let t = both (is_usable i) (are_usable items) u in
      let v = t.0 in
      let es = entries_given n (suc k) items (omega (arith, l)) h.1 t.1 in
      record {
        given =
            on (λ (x : Entry). and_then (entries_from period (suc k) items) (λ xs. gives (x ∷ xs))) (record { value = it k i h.0 v; is = entry_is k i h.0 v })
            (on (λ (xs : List Entry). gives (it k i h.0 v ∷ xs)) es.given (at (it k i h.0 v ∷ es.given.value)));
        size = ap suc es.size;
        fine = (((reduced_given k i h.0 v).between, omega (arith, l)), es.fine);
      }

  -- nor the override
  override_given : (n : ℕ) (es : List Entry) → 0 < length es → length es ≤ n → All (Fine n) es → Listed n (length es) (overridden period es)
  override_given n es some l a = go (le one_f period) (entry (length es - 1) period (pos 0)) (entry 0 (div binary64 one_f period) (pos 1)) refl refl
    where
      go : (b : Bool) (last first : Entry) → last ≡ entry (length es - 1) period (pos 0) → first ≡ entry 0 (div binary64 one_f period) (pos 1)
          → Listed n (length es) (pick b (gives (set es (length es - 1) (entry (length es - 1) period (pos 0)))) (and_then (inverse period) (λ r. gives (set es 0 (entry 0 r (pos 1))))))
      go true last first x y = rw (← x) (record { given = at (set es (length es - 1) last); size = length-set es (length es - 1) last; fine = all_set n es (length es - 1) last (rw x (p, omega arith)) a })
      go false last first x y = record {
        given = record { value = set es 0 first; is = rw (turned period (within_reach (within_more (lit≤ tt) (lit≤ tt) p)), ← y) };
        size = length-set es 0 first;
        fine = all_set n es 0 first (rw y (inverse_within (lit≤ tt) (lit≤ tt) p, omega arith)) a;
      }

-- ---- the list
-- what a build leaves: as many entries as items, whose ratios pass the test of a lent list, with places below their number
pub record Leaves (items : List Item) (es : List Entry) : Type 0 where
  pub size : length es ≡ length items
  pub ratios : usable (map (λ (e : Entry). e.ratio) es) ≡ true
  pub entries : All (Fine (length items)) es

module _ (items : List Item) (some : 0 < length items) (h : AllHeld items) (u : are_usable items ≡ true) where
  inside : length items - 1 < length items
  inside = omega arith

  -- the period
  pub period_ratio : Ratio 32 (ratio_of (last_of items))
  period_ratio = item_ratio (last_of items) (held_at items (length items - 1) h inside) (usable_at items (length items - 1) u inside)

  abbrev period : Float
  period = period_ratio.value

  reach : in_reach period ≡ true
  reach = ratio_reach (lit≤ tt) period_ratio (sym period_ratio.is)

  pub entries : Listed (length items) (length items) (entries_from period 0 items)
  entries = entries_given period period_ratio.held period_ratio.between (length items) 0 items (omega arith) h u

  pub over : Listed (length items) (length entries.given.value) (overridden period entries.given.value)
  over = override_given period period_ratio.held period_ratio.between (length items) entries.given.value (omega (arith, some, entries.size)) (omega (arith, entries.size)) entries.fine

  abbrev list : List Entry
  list = arranged over.given.value

  -- the sorted list of usable items is never refused: no count leaves i32, no ratio leaves 2^-900..2^900
  pub sorted_given : sorted_of items ≡ gives list
  unfolding sorted_of
  sorted_given =
      ap (λ s. and_then s (λ r. and_then (entries_from r 0 items) (λ xs. and_then (overridden r xs) (λ ys. gives (arranged ys))))) period_ratio.is
      ∙ ap (λ s. and_then s (λ xs. and_then (overridden period xs) (λ ys. gives (arranged ys)))) entries.given.is
      ∙ ap (λ s. and_then s (λ ys. gives (arranged ys))) over.given.is

  -- and it passes every later call's test of lent tables
  pub sorted_leaves : (es : List Entry) → sorted_of items ≡ gives es → Leaves items es
  sorted_leaves es e =
      let n = length items in
      let fs = over.given.value in
      subst (Leaves items) (same_value list es (sym sorted_given ∙ e)) (record {
        size = arranged_length fs ∙ over.size ∙ entries.size;
        ratios = arranged_usable fs (all_reach n fs over.fine);
        entries = arranged_all (Fine n) fs over.fine;
      })

  scale_opened : scale_of items ≡ pick (leb 2 (count_of items) && eq (log_of period) zero_f) (refuses beyond_reach 0) (sorted_of items)
  unfolding scale_of
  scale_opened =
      ap (λ s. and_then s (λ r. and_then (L r) (λ size. pick (leb 2 (count_of items) && eq size zero_f) (refuses beyond_reach 0) (sorted_of items)))) period_ratio.is
      ∙ ap (λ s. and_then s (λ size. pick (leb 2 (count_of items) && eq size zero_f) (refuses beyond_reach 0) (sorted_of items))) (log_gives period reach)

  one : (eq (log_of period) zero_f ≡ true) ↔ (period ≡ one_f)
  one = period_one period (log_of period) period_ratio.held (log_gives period reach)

  -- 18 exactly where there are two items and the period is 1.0
  pub beyond_is : (scale_of items ≡ refuses beyond_reach 0) ↔ ((2 ≤ count_of items) × (period ≡ one_f))
  beyond_is = (λ e. there (leb 2 (count_of items)) (eq (log_of period) zero_f) refl refl (sym scale_opened ∙ e), λ t. scale_opened ∙ rw (le-leb 2 (count_of items) t.0, one.1 t.1))
    where
      there : (a b : Bool) → leb 2 (count_of items) ≡ a → eq (log_of period) zero_f ≡ b → pick (a && b) (refuses beyond_reach 0) (sorted_of items) ≡ refuses beyond_reach 0 → (2 ≤ count_of items) × (period ≡ one_f)
      there true true x y e = (leb-true 2 (count_of items) x, one.0 y)
      there true false x y e = never (sym e) sorted_given
      there false b x y e = never (sym e) sorted_given

  -- and else the sorted list
  pub within_is : ((2 ≤ count_of items) → (period ≡ one_f) → ⊥) → scale_of items ≡ sorted_of items
  within_is n = scale_opened ∙ go (leb 2 (count_of items)) (eq (log_of period) zero_f) refl refl
    where
      go : (a b : Bool) → leb 2 (count_of items) ≡ a → eq (log_of period) zero_f ≡ b → pick (a && b) (refuses beyond_reach 0) (sorted_of items) ≡ sorted_of items
      go true true x y = absurd (n (leb-true 2 (count_of items) x) (one.0 y))
      go true false x y = refl
      go false b x y = refl

-- ---- the look itself
module _ (count : ℕ) (last : Item) where
  pub beyond_look : {ratio octaves : Float} → 2 ≤ count → gives ratio ≡ ratio_of last → L ratio ≡ gives octaves → eq octaves zero_f ≡ is_beyond count last
  unfolding is_beyond
  beyond_look h r o = rw (le-leb 2 count h, ← r, o)

  pub too_few : count < 2 → false ≡ is_beyond count last
  unfolding is_beyond
  too_few h = rw (lt-leb 2 count h)

-- what is computed and given lies in the range of all ratios
computed_reach : (x : Float) {r : Float} → computed x ≡ gives r → in_reach r ≡ true
computed_reach x {r} e = go (in_reach x) refl e
  where
    go : (b : Bool) → in_reach x ≡ b → pick b (gives x) (refuses beyond_reach 0) ≡ gives r → in_reach r ≡ true
    go true h e = rw (← same_value x r e) h
    go false h e = never e refl

then_reach : (s : Said Float) {r : Float} → and_then s computed ≡ gives r → in_reach r ≡ true
then_reach (gives x) e = computed_reach x e
then_reach (refuses n d) e = never e refl

ratio_said : (i : Item) {r : Float} → ratio_of i ≡ gives r → in_reach r ≡ true
ratio_said (Cents c) e = then_reach (E (div binary64 c cents_f)) e
ratio_said (Fraction n d) e = computed_reach (div binary64 (of_int binary64 (pos n)) (of_int binary64 (pos (denom_of d)))) e

sorted_refused : (items : List Item) {n d : ℕ} → ratio_of (last_of items) ≡ refuses n d → sorted_of items ≡ refuses n d
unfolding sorted_of
sorted_refused items e = ap (λ s. and_then s (λ r. and_then (entries_from r 0 items) (λ xs. and_then (overridden r xs) (λ ys. gives (arranged ys))))) e

after_none : (b : Bool) (x y : Said (List Entry)) → y ≡ pick (b && false) x y
after_none true x y = refl
after_none false x y = refl

-- one look at the last item decides
pub scale_looks : (items : List Item) → scale_of items ≡ pick (is_beyond (count_of items) (last_of items)) (refuses beyond_reach 0) (sorted_of items)
unfolding scale_of is_beyond
scale_looks items = go (ratio_of (last_of items)) refl
  where
    go : (s : Said Float) → ratio_of (last_of items) ≡ s
        → and_then s (λ period. and_then (L period) (λ size. pick (leb 2 (count_of items) && eq size zero_f) (refuses beyond_reach 0) (sorted_of items)))
        ≡ pick (leb 2 (count_of items) && is_none (and_then s L)) (refuses beyond_reach 0) (sorted_of items)
    go (gives r) e = rw (log_gives r (ratio_said (last_of items) e))
    go (refuses n d) e = sym (sorted_refused items e) ∙ after_none (leb 2 (count_of items)) (refuses beyond_reach 0) (sorted_of items)
