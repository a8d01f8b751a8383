-- The definitions, opened as the code comes to them. Assumes nothing.
use mathlib.Core.Path.{◌≡◌, refl, sym, ◌∙◌, ap}
use mathlib.Core.Bool.{Bool, true, false, ◌&&◌}
use mathlib.Core.List.{List}
use Prim.Native.Nat.{ℕ, ◌-◌}
use lib.Dec.{eqb}
use lib.IntN.{ℤ, pos}
use lib.ListN.{length, get_or}
use lib.Ieee.{Float, binary64, le, lt, eq, mul, div, of_bits}
use borrow.Author.Tests.{eq-eqb, ne_eqb}
use Rattle.base.specs.Numbers.{beyond_reach}
use Rattle.base.specs.Said.{Said, gives, refuses, pick, and_then}
use Rattle.floats.specs.Floats.{zero_f}
use Rattle.floats.specs.Ranges.{in_reach}
use Rattle.explog.specs.Rules.{L}
use Rattle.pitch.specs.Ratios.{stretched_by, deviation_from, inverse}
use Rattle.sorting.specs.Entries.{Entry}
use Rattle.scl.specs.Items.{ratio_of}
use Rattle.scl.specs.declared.Item.{Item}
use Rattle.scl_tables.specs.Reduce.{reduced_by}
use Rattle.scl_tables.specs.Build.{last_of, count_of}
use Rattle.relative.specs.Scales.{no_entry}
use Rattle.searching.specs.Search.{tolerance, choice, chosen_of, index_of, found_at, nearest_at, nearest_of, upper_of, search_of}
use Rattle.searching.specs.declared.Choice.{Choice}
use Rattle.searching.specs.declared.Found.{Found}

-- ---- of two neighbours
tolerance_reach : in_reach tolerance ≡ true
unfolding le lt eq of_bits
tolerance_reach = refl

abbrev pub lastly : Float → Float → Float → Said Choice
lastly up down bound = pick (lt bound up) (gives (choice false down)) (and_then (inverse up) (λ turned. gives (choice true turned)))

module _ (lower upper target : Float) (l : in_reach lower ≡ true) (u : in_reach upper ≡ true) (t : in_reach target ≡ true) where
  abbrev pub up_r : Float
  up_r = div binary64 upper target

  abbrev pub down_r : Float
  down_r = div binary64 target lower

  abbrev pub bound_r : Float
  bound_r = mul binary64 down_r tolerance

  abbrev first : Said Float → Said Choice
  first s = and_then s (λ x. and_then (deviation_from target lower) (λ y. and_then (stretched_by y tolerance) (λ z. lastly x y z)))

  abbrev second : Said Float → Said Choice
  second s = and_then s (λ y. and_then (stretched_by y tolerance) (λ z. lastly up_r y z))

  abbrev third : Said Float → Said Choice
  third s = and_then s (λ z. lastly up_r down_r z)

  up_given : in_reach up_r ≡ true → deviation_from upper target ≡ gives up_r
  up_given a = rw (u, t, a)

  up_refused : in_reach up_r ≡ false → deviation_from upper target ≡ refuses beyond_reach 0
  up_refused a = rw (u, t, a)

  down_given : in_reach down_r ≡ true → deviation_from target lower ≡ gives down_r
  down_given a = rw (t, l, a)

  down_refused : in_reach down_r ≡ false → deviation_from target lower ≡ refuses beyond_reach 0
  down_refused a = rw (t, l, a)

  bound_given : in_reach down_r ≡ true → in_reach bound_r ≡ true → stretched_by down_r tolerance ≡ gives bound_r
  bound_given a b = rw (a, tolerance_reach, b)

  bound_refused : in_reach down_r ≡ true → in_reach bound_r ≡ false → stretched_by down_r tolerance ≡ refuses beyond_reach 0
  bound_refused a b = rw (a, tolerance_reach, b)

  opened : (x y z : Bool) → in_reach up_r ≡ x → in_reach down_r ≡ y → in_reach bound_r ≡ z → chosen_of lower upper target ≡ pick ((x && y) && z) (lastly up_r down_r bound_r) (refuses beyond_reach 0)
  unfolding chosen_of
  opened false y z a b c = ap first (up_refused a)
  opened true false z a b c = ap first (up_given a) ∙ ap second (down_refused b)
  opened true true false a b c = ap first (up_given a) ∙ ap second (down_given b) ∙ ap third (bound_refused b c)
  opened true true true a b c = ap first (up_given a) ∙ ap second (down_given b) ∙ ap third (bound_given b c)

  pub chosen_is : chosen_of lower upper target ≡ pick ((in_reach up_r && in_reach down_r) && in_reach bound_r) (lastly up_r down_r bound_r) (refuses beyond_reach 0)
  chosen_is = opened (in_reach up_r) (in_reach down_r) (in_reach bound_r) refl refl refl

  -- by its tests: beyond reach, the lower neighbour, the upper one
  abbrev by_tests : Bool → Bool → Said Choice
  by_tests held below =
      pick held (pick below (gives (choice false down_r)) (and_then (inverse up_r) (λ turned. gives (choice true turned))))
      (refuses beyond_reach 0)

  pub chosen_beyond : ((in_reach up_r && in_reach down_r) && in_reach bound_r) ≡ false
      → refuses beyond_reach 0 ≡ chosen_of lower upper target
  chosen_beyond held = sym (chosen_is ∙ ap (λ b. by_tests b (lt bound_r up_r)) held)

  pub chosen_lower : ((in_reach up_r && in_reach down_r) && in_reach bound_r) ≡ true → lt bound_r up_r ≡ true
      → gives (choice false down_r) ≡ chosen_of lower upper target
  chosen_lower held below = sym (chosen_is ∙ ap (λ b. by_tests b (lt bound_r up_r)) held ∙ ap (by_tests true) below)

  pub chosen_upper : ((in_reach up_r && in_reach down_r) && in_reach bound_r) ≡ true → lt bound_r up_r ≡ false
      → and_then (inverse up_r) (λ turned. gives (choice true turned)) ≡ chosen_of lower upper target
  chosen_upper held below = sym (chosen_is ∙ ap (λ b. by_tests b (lt bound_r up_r)) held ∙ ap (by_tests true) below)

-- ---- in a scale
module _ (items : List Item) (es : List Entry) (count : ℕ) (x : Float) (n : length items - 1 ≡ count) where
  pub search_none : count ≡ 0 → gives (found_at (get_or es 0 no_entry) 0 (pos 0) x) ≡ search_of items es x
  unfolding search_of
  search_none e = rw (eq-eqb (length items - 1) 0 (n ∙ e))

  module _ {period size : Float} (b : Bool) (some : count ≡ 0 → ⊥) (single : eqb count 1 ≡ b) (h : gives period ≡ ratio_of (last_of items)) (k : L period ≡ gives size) where
    pub search_some : search_of items es x ≡ pick (b && eq size zero_f) (refuses beyond_reach 0) (and_then (reduced_by period x) (λ y. nearest_of es y.wraps y.ratio))
    unfolding search_of
    search_some =
        ap (λ (t : Bool). pick t (gives (found_at (get_or es 0 no_entry) 0 (pos 0) x)) (and_then (ratio_of (last_of items)) (λ p. and_then (L p) (λ z. pick (eqb (count_of items) 1 && eq z zero_f) (refuses beyond_reach 0) (and_then (reduced_by p x) (λ y. nearest_of es y.wraps y.ratio)))))) (ne_eqb (count_of items) 0 (λ e. some (sym n ∙ e)))
        ∙ sym (ap (λ (s : Said Float). and_then s (λ p. and_then (L p) (λ z. pick (eqb (count_of items) 1 && eq z zero_f) (refuses beyond_reach 0) (and_then (reduced_by p x) (λ y. nearest_of es y.wraps y.ratio))))) h)
        ∙ ap (λ (s : Said Float). and_then s (λ z. pick (eqb (count_of items) 1 && eq z zero_f) (refuses beyond_reach 0) (and_then (reduced_by period x) (λ y. nearest_of es y.wraps y.ratio)))) k
        ∙ ap (λ (m : ℕ). pick (eqb m 1 && eq size zero_f) (refuses beyond_reach 0) (and_then (reduced_by period x) (λ y. nearest_of es y.wraps y.ratio))) n
        ∙ ap (λ (t : Bool). pick (t && eq size zero_f) (refuses beyond_reach 0) (and_then (reduced_by period x) (λ y. nearest_of es y.wraps y.ratio))) single

-- ---- in a list
-- the entry of a choice at a place
abbrev pub picked_at : List Entry → ℤ → ℕ → Choice → Said Found
picked_at es periods at c = gives (found_at (get_or es (index_of at c.upper) no_entry) (index_of at c.upper) periods c.deviation)

pub nearest_told : (es : List Entry) (periods : ℤ) (target : Float) (at : ℕ) {lower upper : Float} {s : Said Choice} → lower ≡ (get_or es (at - 1) no_entry).ratio → upper ≡ (get_or es at no_entry).ratio → at ≡ upper_of es target → s ≡ chosen_of lower upper target
    → and_then s (picked_at es periods at) ≡ nearest_of es periods target
unfolding nearest_of
nearest_told es periods target at {lower} {upper} {s} l u e h =
    ap (λ (t : Said Choice). and_then t (picked_at es periods at)) (h ∙ ap (λ (x : Float). chosen_of x upper target) l ∙ ap (λ (x : Float). chosen_of (get_or es (at - 1) no_entry).ratio x target) u)
    ∙ ap (nearest_at es periods target) e
