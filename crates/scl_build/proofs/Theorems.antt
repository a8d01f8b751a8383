-- What the builder's calls come to, and that each has one result. Document 01, "What is taken", 5. Assumes nothing.
use Rattle.std.specs.Prelude.{Some, None}
use mathlib.Core.Path.{◌≡◌, refl, sym, ◌∙◌, ap}
use mathlib.Core.Logic.{◌↔◌}
use mathlib.Core.Bool.{Bool, true, false}
use mathlib.Core.List.{List, [], ◌∷◌}
use Prim.Native.Nat.{ℕ, ◌+◌, ◌-◌, ◌≤◌, ◌<◌}
use native.Mathlib.Omega.{arith}
use lib.Dec.{leb}
use lib.Ieee.{Float, le, lt, eq, neg, of_bits}
use borrow.Author.Tests.{lt-ltb, leb-true, le-leb}
use Rattle.base.specs.Numbers.{too_large, unusable, beyond_reach}
use Rattle.base.specs.Said.{Said, gives, refuses, pick, One, outcome}
use Rattle.base.proofs.Said.{one_result, one_said}
use Rattle.scl_tables.proofs.Answered.{never}
use Rattle.floats.specs.Floats.{one_f}
use Rattle.sorting.specs.Entries.{Entry}
use Rattle.sorted.specs.Lent.{ListTable}
use Rattle.scl.specs.Answers.{says_scl}
use Rattle.scl.specs.Items.{is_usable, ratio_of, AllHeld}
use Rattle.scl.specs.Table.{ItemTable, items_of, items_in, implicit, written_at, are_usable, have_items}
use Rattle.scl.specs.declared.Item.{Item}
use Rattle.scl.specs.declared.Item.TheVariants.{Cents, Fraction}
use Rattle.scl.proofs.Table.{have_items_law, length_first, items_roomy, items_usable}
use Rattle.scl.proofs.Theorems.{scl_one}
use Rattle.scl.proofs.Writing.{first_written}
use Rattle.scl_tables.specs.Build.{count_of, scale_of, sorted_of, sized_of, is_beyond, last_of, after_list}
use Rattle.scl_tables.specs.Room.{room_of}
use Rattle.scl_tables.proofs.Beyond.{scale_looks}
use Rattle.scl_tables.proofs.Room.{room_within}
use Rattle.scl_tables.proofs.Theorems.{beyond_reach_is, list_leaves, left_list}
use Rattle.scl_build.specs.Builder.{state, builder_of, after_new, fits_items, fits_list, pushed, after_push, pushed_ratio, after_ratio, beside, after_all, accepted_of, Built, Appended, is_ready, built, counted, Leaves}
use Rattle.scl_build.specs.declared.SclBuilder.{SclBuilder}
use Rattle.scl_build.proofs.Appends.{written_fits, run_appends, accepted_usable}
use Rattle.scl_build.proofs.Builds.{ready, ready_items, ready_count, too_many}
use Rattle.scl_build.proofs.Pushes.{Fit, fit_says, says_fit, says_fit_list}

-- ---- from a new builder on
pub implicit_usable : is_usable implicit ≡ true
unfolding le lt eq neg of_bits
implicit_usable = refl

module _ (t : ItemTable) (l : ListTable) (some : 0 < room_of t l) where
  -- "place 0 holds the implicit 0.0 cents"
  pub new_table : after_new t l ≡ written_at t 0 implicit
  new_table = rw (lt-ltb 0 (room_of t l) some)

  fit_old : Fit (state (room_of t l) 0) t
  fit_old = let w = room_within t l in record { inside = some; kinds = w.0; cents = w.1; numers = w.2; denoms = w.3 }

  pub new_fits : fits_items (state (room_of t l) 0) (after_new t l) ≡ true
  new_fits = rw new_table (says_fit (state (room_of t l) 0) (written_at t 0 implicit) (written_fits (state (room_of t l) 0) t 0 implicit fit_old))

  pub new_items : items_in 0 (after_new t l) ≡ implicit ∷ []
  unfolding items_of
  new_items = rw new_table (first_written 0 t implicit (record { kinds = omega (arith, fit_old.kinds, some); cents = omega (arith, fit_old.cents, some); numers = omega (arith, fit_old.numers, some); denoms = omega (arith, fit_old.denoms, some) }))

  module _ (is : List Item) where
    -- what the pushes leave
    abbrev left : Built
    left = after_all (beside (state (room_of t l) 0) (after_new t l)) is

    appended : Appended (beside (state (room_of t l) 0) (after_new t l)) (accepted_of (room_of t l - 1) is) left
    appended = run_appends is (state (room_of t l) 0) (after_new t l) new_fits

    -- "Builder calls act, push for push, as appending to a plain list": whatever is pushed, the items are place 0 and the accepted ones
    pub run_items : items_in left.builder.count left.table ≡ implicit ∷ accepted_of (room_of t l - 1) is
    run_items = appended.items ∙ ap (λ (x : List Item). mathlib.Core.List.◌++◌ x (accepted_of (room_of t l - 1) is)) new_items

    run_usable : are_usable (items_in left.builder.count left.table) ≡ true
    unfolding are_usable
    run_usable = rw (run_items, implicit_usable) (accepted_usable (room_of t l - 1) is)

    run_room : left.builder.room ≡ room_of t l
    run_room = ap (λ (b : SclBuilder). b.room) appended.builder

    run_have : have_items left.builder.count left.table ≡ true
    run_have =
        let f = fit_says left.builder left.table appended.fits in
        have_items_law left.builder.count left.table (omega (arith, f.inside, f.kinds)) (omega (arith, f.inside, f.cents)) (omega (arith, f.inside, f.numers)) (omega (arith, f.inside, f.denoms))

    run_list : fits_list left.builder l ≡ true
    run_list =
        let w = room_within t l in
        says_fit_list left.builder l (record { places = omega (arith, run_room, w.4); ratios = omega (arith, run_room, w.5); wraps = omega (arith, run_room, w.6) })

    run_ready : is_ready left.builder left.table l ≡ true
    run_ready = sym (ready left.builder left.table l appended.fits run_list {r = true} (sym (rw run_have run_usable)))

    -- and the build's list is that of this plain list: no 10, "13, then for a scale 18"
    pub run_built : built left.builder left.table l ≡ sized_of (implicit ∷ accepted_of (room_of t l - 1) is)
    unfolding built
    run_built = rw run_ready (ap sized_of run_items)

-- ---- when a build of ready tables is refused (that items in columns of u32 are held by the machine: Comes.antt)
module _ (b : SclBuilder) (t : ItemTable) (l : ListTable) (h : is_ready b t l ≡ true) where
  -- "13: over 65,535 entries"
  pub build_too_large : 65535 < b.count → built b t l ≡ refuses too_large 0
  build_too_large = too_many b t l h

  module _ (few : b.count ≤ 65535) (held : AllHeld (items_in b.count t)) where
    built_scale : built b t l ≡ scale_of (items_in b.count t)
    unfolding built
    built_scale = rw (h, ready_count b t l h, le-leb b.count 65535 few)

    -- "then for a scale 18": exactly when there are two or more items and the period is 1.0
    pub build_beyond : (built b t l ≡ refuses beyond_reach 0) ↔ ((2 ≤ b.count) × (ratio_of (last_of (items_in b.count t)) ≡ gives one_f))
    build_beyond =
        let n = length_first (b.count + 1) t (items_roomy b.count t (ready_items b t l h)) in
        let c = ready_count b t l h in
        let k = beyond_reach_is (items_in b.count t) (omega (arith, n)) held (items_usable b.count t (ready_items b t l h)) in
        (λ e. let x = k.0 (sym built_scale ∙ e) in (omega (arith, x.0, c), x.1), λ x. built_scale ∙ k.1 (omega (arith, x.0, c), x.1))

-- ---- what an accepted build leaves passes every later call's test of lent tables
module _ (b : SclBuilder) (t : ItemTable) (l : ListTable) (es : List Entry) where
  beyond_or_sorted : (items : List Item) → scale_of items ≡ gives es → sorted_of items ≡ gives es
  beyond_or_sorted items e = go (is_beyond (count_of items) (last_of items)) (sym (scale_looks items) ∙ e)
    where
      go : (x : Bool) → pick x (refuses 18 0) (sorted_of items) ≡ gives es → sorted_of items ≡ gives es
      go true e = never e refl
      go false e = e

  pub sized_given : (items : List Item) → sized_of items ≡ gives es → (count_of items ≤ 65535) × (sorted_of items ≡ gives es)
  sized_given items e = go (leb (count_of items) 65535) refl e
    where
      go : (x : Bool) → leb (count_of items) 65535 ≡ x → pick x (scale_of items) (refuses too_large 0) ≡ gives es → (count_of items ≤ 65535) × (sorted_of items ≡ gives es)
      go true h e = (leb-true (count_of items) 65535 h, beyond_or_sorted items e)
      go false h e = never e refl

  pub build_leaves : AllHeld (items_in b.count t) → built b t l ≡ gives es → Leaves b.count t (after_list (gives es) l)
  unfolding built
  build_leaves held e = go (is_ready b t l) refl e
    where
      go : (x : Bool) → is_ready b t l ≡ x → pick x (sized_of (items_in b.count t)) (refuses unusable 0) ≡ gives es → Leaves b.count t (after_list (gives es) l)
      go true h e =
          let items = items_in b.count t in
          let given = sized_given items e in
          let n = length_first (b.count + 1) t (items_roomy b.count t (ready_items b t l h)) in
          let c = ready_count b t l h in
          record {
            items = ready_items b t l h;
            list = left_list b.count items es l n (list_leaves items (omega (arith, n)) held (items_usable b.count t (ready_items b t l h)) es given.1);
            small = omega (arith, given.0, c);
          }
      go false h e = never e refl

pub builder_one : (s : Said SclBuilder) → One outcome s
builder_one = one_said

-- the answer, and the columns that a call leaves
pub new_one : (t : ItemTable) (l : ListTable) → One outcome (builder_of t l) × One (λ r. r) (after_new t l)
new_one t l = (builder_one (builder_of t l), one_result (after_new t l))

push_one : (b : SclBuilder) (t : ItemTable) (i : Item) → One outcome (pushed b t i) × One (λ r. r) (after_push b t i)
push_one b t i = (builder_one (pushed b t i), one_result (after_push b t i))

pub push_cents_one : (b : SclBuilder) (t : ItemTable) (cents : Float) → One outcome (pushed b t (Cents cents)) × One (λ r. r) (after_push b t (Cents cents))
push_cents_one b t cents = push_one b t (Cents cents)

pub push_ratio_one : (b : SclBuilder) (t : ItemTable) (ratio : Float) → One outcome (pushed_ratio b t ratio) × One (λ r. r) (after_ratio b t ratio)
push_ratio_one b t ratio = (builder_one (pushed_ratio b t ratio), one_result (after_ratio b t ratio))

pub push_int_one : (b : SclBuilder) (t : ItemTable) (number : ℕ) → One outcome (pushed b t (Fraction number None)) × One (λ r. r) (after_push b t (Fraction number None))
push_int_one b t number = push_one b t (Fraction number None)

pub push_fraction_one : (b : SclBuilder) (t : ItemTable) (numer denom : ℕ) → One outcome (pushed b t (Fraction numer (Some denom))) × One (λ r. r) (after_push b t (Fraction numer (Some denom)))
push_fraction_one b t numer denom = push_one b t (Fraction numer (Some denom))

pub build_one : (b : SclBuilder) (t : ItemTable) (l : ListTable) → One says_scl (counted b (built b t l)) × One (λ r. r) (after_list (built b t l) l)
build_one b t l = (scl_one (counted b (built b t l)), one_result (after_list (built b t l) l))
