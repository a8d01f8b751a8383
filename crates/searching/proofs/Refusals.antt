-- A search in usable tables is refused by 18 alone. Assumes nothing.
use mathlib.Core.Path.{◌≡◌, refl, sym, ◌∙◌, ap}
use mathlib.Core.Bool.{Bool, true, false, ◌&&◌}
use mathlib.Core.List.{List}
use Prim.Native.Nat.{ℕ, ◌-◌, ◌≤◌, ◌<◌}
use native.Mathlib.Omega.{arith}
use lib.Dec.{eqb}
use lib.IntN.{ℤ, pos}
use lib.ListN.{length, get_or}
use lib.Ieee.{Float, binary64, fits, le, lt, eq, mul, div, to_signed}
use borrow.Author.Tests.{eqb-false}
use Rattle.base.specs.Numbers.{unusable, beyond_reach}
use Rattle.base.specs.Said.{Said, gives, refuses, pick, and_then}
use Rattle.floats.specs.Floats.{zero_f, one_f, least_i32, past_i32, count}
use Rattle.floats.specs.Ranges.{in_reach, negligible}
use Rattle.remainder.specs.Euclid.{rem_euclid, div_euclid}
use Rattle.explog.specs.Rules.{E, L, in_powers, floor_of, power_of, log_of}
use Rattle.pitch.specs.Given.{computed}
use Rattle.pitch.specs.Ratios.{from_octaves, inverse}
use Rattle.sorting.specs.Entries.{Entry}
use Rattle.sorted.specs.Lent.{ListTable, ratios_of, list_in, first_not_below, is_list}
use Rattle.scl.specs.Items.{ratio_of}
use Rattle.scl.specs.Table.{ItemTable, items_in, is_items}
use Rattle.scl.specs.declared.Item.{Item}
use Rattle.scl_tables.specs.Reduce.{reduced_to, reduced_octaves, reduced_by}
use Rattle.scl_tables.proofs.Reaches.{reduced_reach}
use Rattle.scl_tables.specs.Build.{last_of, count_of}
use Rattle.relative.specs.Refusals.{ReachedOrBeyond}
use Rattle.relative.specs.Scales.{no_entry}
use Rattle.relative.proofs.Places.{items_count, list_at, list_count, ratio_reach}
use Rattle.relative.proofs.Ratios.{item_held}
use Rattle.relative.proofs.Refusals.{item_reached}
use Rattle.searching.specs.Refusals.{OrBeyond, given, beyond}
use Rattle.searching.specs.Search.{tolerance, choice, chosen_of, upper_of, found_at, nearest_of, search_of}
use Rattle.searching.proofs.Given.{clamped_in}
use Rattle.searching.proofs.Opened.{lastly, chosen_is, picked_at}

-- ---- steps
pub move : {A : Type 0} {s t : Said A} → t ≡ s → OrBeyond s → OrBeyond t
move e (given a h) = given a (e ∙ h)
move e (beyond h) = beyond (e ∙ h)

pub value : {A : Type 0} (a : A) → OrBeyond (gives a)
value a = given a refl

-- a step that goes on from a value
pub on : {A B : Type 0} {s : Said A} (f : A → Said B) → OrBeyond s → ((a : A) → s ≡ gives a → OrBeyond (f a)) → OrBeyond (and_then s f)
on f (given a e) k = move (ap (λ t. and_then t f) e) (k a e)
on f (beyond e) k = beyond (ap (λ t. and_then t f) e)

-- a test that gives 18
pub where_held : {A : Type 0} (b : Bool) {s : Said A} → OrBeyond s → OrBeyond (pick b s (refuses beyond_reach 0))
where_held true h = h
where_held false h = beyond refl

where_not : {A : Type 0} (b : Bool) {s : Said A} → OrBeyond s → OrBeyond (pick b (refuses beyond_reach 0) s)
where_not true h = beyond refl
where_not false h = h

either : {A : Type 0} (b : Bool) {s t : Said A} → OrBeyond s → OrBeyond t → OrBeyond (pick b s t)
either true h k = h
either false h k = k

-- ---- the float steps
log_or : (x : Float) → OrBeyond (L x)
unfolding L
log_or x = where_held (in_reach x) (value (log_of x))

pub computed_or : (x : Float) → OrBeyond (computed x)
computed_or x = where_held (in_reach x) (value x)

octaves_or : (x : Float) → OrBeyond (from_octaves x)
unfolding E
octaves_or x = on computed (where_held (in_powers x) (value (power_of (floor_of x)))) (λ r e. computed_or r)

count_or : (q : Float) → OrBeyond (count q)
count_or q = where_held (le least_i32 q && lt q past_i32) (value (to_signed 31 q))

pub reduced_or : (period x : Float) → OrBeyond (reduced_by period x)
reduced_or period x =
    either (negligible period) (value (reduced_to x (pos 0)))
    (on (λ size. and_then (L x) (reduced_octaves size)) (log_or period) (λ size e. on (reduced_octaves size) (log_or x) (λ o e. on (λ r. and_then (count (div_euclid o size)) (λ w. gives (reduced_to r w))) (octaves_or (rem_euclid o size)) (λ r e. on (λ w. gives (reduced_to r w)) (count_or (div_euclid o size)) (λ w e. value (reduced_to r w))))))

-- ---- of two neighbours
inverse_or : (x : Float) → in_reach x ≡ true → OrBeyond (inverse x)
inverse_or x h = move (ap (λ (b : Bool). pick b (computed (div binary64 one_f x)) (refuses unusable 0)) h) (computed_or (div binary64 one_f x))

last_or : (up down bound : Float) → in_reach up ≡ true → OrBeyond (lastly up down bound)
last_or up down bound h = either (lt bound up) (value (choice false down)) (on (λ turned. gives (choice true turned)) (inverse_or up h) (λ t e. value (choice true t)))

chosen_or : (lower upper target : Float) → in_reach lower ≡ true → in_reach upper ≡ true → in_reach target ≡ true → OrBeyond (chosen_of lower upper target)
chosen_or lower upper target l u t = move (chosen_is lower upper target l u t) (go (in_reach up) refl)
  where
    up : Float
    up = div binary64 upper target

    down : Float
    down = div binary64 target lower

    go : (x : Bool) → in_reach up ≡ x → OrBeyond (pick ((in_reach up && in_reach down) && in_reach (mul binary64 down tolerance)) (lastly up down (mul binary64 down tolerance)) (refuses beyond_reach 0))
    go true e = where_held ((in_reach up && in_reach down) && in_reach (mul binary64 down tolerance)) (last_or up down (mul binary64 down tolerance) e)
    go false e = rw e (beyond refl)

-- ---- in a usable scale
module _ (count : ℕ) (t : ItemTable) (l : ListTable) (it : is_items count t ≡ true) (li : is_list count l ≡ true) (x : Float) (fx : fits binary64 x ≡ true) (rx : in_reach x ≡ true) where
  abbrev items : List Item
  items = items_in count t

  abbrev es : List Entry
  es = list_in count l

  entry_reach : (i : ℕ) → i ≤ count → in_reach (get_or es i no_entry).ratio ≡ true
  entry_reach i k = rw (list_at count l li i k) (ratio_reach count l li i k)

  nearest_or : 0 < count → (periods : ℤ) (target : Float) → in_reach target ≡ true → OrBeyond (nearest_of es periods target)
  unfolding nearest_of
  nearest_or some periods target h =
      let at = upper_of es target in
      let c = clamped_in (length es - 1) (first_not_below (ratios_of es) target) (omega (arith, some, list_count count l li)) in
      let top : at ≤ count = omega (arith, c.1, list_count count l li) in
      on (picked_at es periods at) (chosen_or (get_or es (at - 1) no_entry).ratio (get_or es at no_entry).ratio target (entry_reach (at - 1) (omega (arith, top))) (entry_reach at top) h) (λ a e. given _ refl)

  -- a found entry, or 18
  pub search_refusals : OrBeyond (search_of items es x)
  unfolding search_of
  search_refusals = go (eqb (count_of items) 0) refl
    where
      after : (some : 0 < count) (p : Float) → ratio_of (last_of items) ≡ gives p → OrBeyond (and_then (L p) (λ z. pick (eqb (count_of items) 1 && eq z zero_f) (refuses beyond_reach 0) (and_then (reduced_by p x) (λ y. nearest_of es y.wraps y.ratio))))
      after some p e =
          let h = item_held (last_of items) e in
          on (λ z. pick (eqb (count_of items) 1 && eq z zero_f) (refuses beyond_reach 0) (and_then (reduced_by p x) (λ y. nearest_of es y.wraps y.ratio))) (log_or p) (λ z f.
          where_not (eqb (count_of items) 1 && eq z zero_f)
          (on (λ y. nearest_of es y.wraps y.ratio) (reduced_or p x) (λ y g. nearest_or some y.wraps y.ratio (reduced_reach p x h.held fx h.reach rx (sym g)))))

      last : OrBeyond (ratio_of (last_of items))
      last = from (item_reached (last_of items))
        where
          from : {s : Said Float} → ReachedOrBeyond s → OrBeyond s
          from (ReachedOrBeyond.reached p r e) = given p e
          from (ReachedOrBeyond.beyond e) = beyond e

      go : (b : Bool) → eqb (count_of items) 0 ≡ b → OrBeyond (pick b (gives (found_at (get_or es 0 no_entry) 0 (pos 0) x)) (and_then (ratio_of (last_of items)) (λ p. and_then (L p) (λ z. pick (eqb (count_of items) 1 && eq z zero_f) (refuses beyond_reach 0) (and_then (reduced_by p x) (λ y. nearest_of es y.wraps y.ratio))))))
      go true e = value (found_at (get_or es 0 no_entry) 0 (pos 0) x)
      go false e =
          let n = eqb-false (count_of items) 0 e in
          let some : 0 < count = omega (arith, n, items_count count t it) in
          on (λ p. and_then (L p) (λ z. pick (eqb (count_of items) 1 && eq z zero_f) (refuses beyond_reach 0) (and_then (reduced_by p x) (λ y. nearest_of es y.wraps y.ratio)))) last (λ p f. after some p f)
