-- "Builder calls act, push for push, as appending to a plain list. [..] a refused push appends nothing" (document 01, "What is taken",
-- 5): after any run of calls from a new builder, refused pushes among them, the builder acts as the plain list. Assumes nothing.
use Rattle.std.specs.Prelude.{Some, None}
use mathlib.Core.Path.{◌≡◌, refl, sym, ◌∙◌, ap}
use mathlib.Core.Bool.{Bool, true, false, ◌&&◌}
use mathlib.Core.List.{List, [], ◌∷◌, ◌++◌, append_assoc, append-nil}
use Prim.Native.Nat.{ℕ, ◌+◌, ◌-◌, ◌≤◌, ◌<◌}
use native.Mathlib.Omega.{arith}
use lib.Dec.{ltb}
use lib.Ieee.{Float}
use lib.ListN.{length, length-set, length-append}
use borrow.Author.Tests.{lt-ltb, le-ltb, ltb-true, ltb-false}
use Rattle.base.specs.Numbers.{unusable, no_room}
use Rattle.base.specs.Said.{Said, gives, refuses, pick, and_then}
use Rattle.pitch.specs.Ratios.{as_cents}
use Rattle.sorted.specs.Lent.{ListTable}
use Rattle.scl.specs.Items.{is_usable}
use Rattle.scl.specs.Table.{ItemTable, items_in, implicit, written_at, kind_of, cents_of, numer_of, denom_at, are_usable, is_items}
use Rattle.scl.specs.declared.Item.{Item}
use Rattle.scl.specs.declared.Item.TheVariants.{Cents, Fraction}
use Rattle.scl.proofs.Table.{both, have_items_law}
use Rattle.scl_tables.specs.Build.{sized_of}
use Rattle.scl_tables.specs.Room.{room_of}
use Rattle.scl_tables.proofs.Room.{room_within}
use Rattle.scl_build.specs.Builder.{state, builder_of, after_new, fits_items, fits_list, pushed, pushed_ratio, after_cents, after_ratio}
use Rattle.scl_build.specs.Builder.{Built, beside, builder_after, after_one, behind, is_ready, built, counted, accepted_of, with_cents}
use Rattle.scl_build.specs.Calls.{Call, says_call, after_call, after_calls, plain_push, plain_call, plain_after, plain_calls}
use Rattle.scl_build.specs.Calls.{items_given, builder_for, lengths_of, Acts}
use Rattle.scl_build.specs.declared.SclBuilder.{SclBuilder}
use Rattle.scl_build.proofs.Appends.{left_by, behind_written, next_fits, next_items}
use Rattle.scl_build.proofs.Builds.{ready}
use Rattle.scl_build.proofs.Pushes.{fit_says, says_fit_list, push_unusable, push_full, push_more}
use Rattle.scl_build.proofs.Theorems.{implicit_usable, new_table, new_fits, new_items}

-- columns written at a place are as long
lengths_written : (t : ItemTable) (place : ℕ) (i : Item) → lengths_of (written_at t place i) ≡ lengths_of t
lengths_written t place i =
    let kinds = length-set t.kinds place (kind_of i) in
    let cents = length-set t.cents place (cents_of i) in
    let numers = length-set t.numers place (numer_of i) in
    rw (kinds, cents, numers, length-set t.denoms place (denom_at i))

usable_more : (is : List Item) (i : Item) → are_usable is ≡ true → is_usable i ≡ true → are_usable (is ++ (i ∷ [])) ≡ true
unfolding are_usable
usable_more [] i e u = rw u
usable_more (j ∷ is) i e u = let r = both (is_usable j) (are_usable is) e in rw r.0 (usable_more is i r.1 u)

-- the push of an item by its two tests: whether it is usable, and whether a place is left
abbrev push_by : Bool → Bool → List Item → Item → Said (List Item)
push_by usable left is i = pick usable (pick left (gives (is ++ (i ∷ []))) (refuses no_room 0)) (refuses unusable 0)

-- the push of a ratio by its cents
abbrev ratio_by : ℕ → List Item → Said Float → Said (List Item)
ratio_by room is x = and_then (and_then x (λ c. gives (Cents c))) (plain_push room is)

module _ (t : ItemTable) (l : ListTable) where
  abbrev room : ℕ
  room = room_of t l

  -- what the table holds of a plain list of usable items
  record Held (is : List Item) (u : ItemTable) : Type 0 where
    items : items_in (length is) u ≡ implicit ∷ is
    others : (k : ℕ) → length is + 1 ≤ k → behind k u ≡ behind k t
    places : lengths_of u ≡ lengths_of t
    fits : fits_items (builder_for room is) u ≡ true
    usable : are_usable is ≡ true

  module _ (is : List Item) (u : ItemTable) (h : Held is u) where
    abbrev b : SclBuilder
    b = builder_for room is

    -- ---- the next push
    more : (i : Item) → length (is ++ (i ∷ [])) ≡ length is + 1
    more i = length-append is (i ∷ [])

    one_more : (i : Item) → state room (length is + 1) ≡ builder_for room (is ++ (i ∷ []))
    one_more i = ap (state room) (sym (more i))

    next_says : (i : Item) → pushed b u i ≡ and_then (plain_push room is i) (λ js. gives (builder_for room js))
    next_says i = go (is_usable i) (ltb (length is + 1) room) refl refl
      where
        go : (x y : Bool) → is_usable i ≡ x → ltb (length is + 1) room ≡ y
            → pushed b u i ≡ and_then (push_by x y is i) (λ js. gives (builder_for room js))
        go true true x y = push_more b u i h.fits x (ltb-true (length is + 1) room y) ∙ ap gives (one_more i)
        go true false x y = push_full b u i h.fits x (ltb-false (length is + 1) room y)
        go false y x z = push_unusable b u i h.fits x

    next_call : (c : Call) → says_call (beside b u) c ≡ and_then (plain_call room is c) (λ js. gives (builder_for room js))
    unfolding pushed_ratio
    next_call (Call.cents c) = next_says (Cents c)
    next_call (Call.ratio r) = go (as_cents r)
      where
        go : (x : Said Float) → and_then x (λ c. pushed b u (Cents c)) ≡ and_then (ratio_by room is x) (λ js. gives (builder_for room js))
        go (gives c) = next_says (Cents c)
        go (refuses n d) = refl
    next_call (Call.int n) = next_says (Fraction n None)
    next_call (Call.fraction n d) = next_says (Fraction n (Some d))

    -- ---- what it leaves
    -- the builder of the list after it, and a table that holds it
    abbrev Goes : List Item → Built → Type 0
    Goes js s = (u' : ItemTable) × ((s ≡ beside (builder_for room js) u') × Held js u')

    held_more : (i : Item) → is_usable i ≡ true → length is + 1 < room → Held (is ++ (i ∷ [])) (written_at u (length is + 1) i)
    held_more i x r =
        let f = fit_says b u h.fits in
        let written = written_at u (length is + 1) i in
        record {
          items = ap (λ (n : ℕ). items_in n written) (more i) ∙ next_items b u i f r ∙ ap (λ (js : List Item). js ++ (i ∷ [])) h.items;
          others = λ k m. behind_written k u (length is + 1) i (omega (arith, m, more i)) ∙ h.others k (omega (arith, m, more i));
          places = lengths_written u (length is + 1) i ∙ h.places;
          fits = ap (λ (a : SclBuilder). fits_items a written) (sym (one_more i)) ∙ next_fits b u i f r;
          usable = usable_more is i h.usable x;
        }

    item_goes : (i : Item) → Goes (plain_after is (plain_push room is i)) (after_one (beside b u) i)
    item_goes i = go (is_usable i) (ltb (length is + 1) room) refl refl
      where
        go : (x y : Bool) → is_usable i ≡ x → ltb (length is + 1) room ≡ y
            → Goes (plain_after is (push_by x y is i)) (after_one (beside b u) i)
        go true true x y =
            let r = ltb-true (length is + 1) room y in
            (written_at u (length is + 1) i, (left_by b u i (push_more b u i h.fits x r ∙ ap gives (one_more i)), held_more i x r))
        go true false x y = (u, (left_by b u i (push_full b u i h.fits x (ltb-false (length is + 1) room y)), h))
        go false y x z = (u, (left_by b u i (push_unusable b u i h.fits x), h))

    call_goes : (c : Call) → Goes (plain_after is (plain_call room is c)) (after_call (beside b u) c)
    unfolding pushed_ratio after_ratio
    call_goes (Call.cents c) = item_goes (Cents c)
    call_goes (Call.ratio r) = go (as_cents r)
      where
        go : (x : Said Float)
            → Goes (plain_after is (ratio_by room is x)) (beside (builder_after b (and_then x (λ c. pushed b u (Cents c)))) (after_cents b u x))
        go (gives c) = item_goes (Cents c)
        go (refuses n d) = (u, (refl, h))
    call_goes (Call.int n) = item_goes (Fraction n None)
    call_goes (Call.fraction n d) = item_goes (Fraction n (Some d))

    -- ---- a build is the plain list's
    table_usable : is_items (length is) u ≡ true
    unfolding are_usable
    table_usable =
        let f = fit_says b u h.fits in
        let kinds : length is < length u.kinds = omega (arith, f.inside, f.kinds) in
        let cents : length is < length u.cents = omega (arith, f.inside, f.cents) in
        let numers : length is < length u.numers = omega (arith, f.inside, f.numers) in
        let have = have_items_law (length is) u kinds cents numers (omega (arith, f.inside, f.denoms)) in
        rw (have, h.items, implicit_usable) h.usable

    fits_list_law : fits_list b l ≡ true
    fits_list_law = let w = room_within t l in says_fit_list b l (record { places = w.4; ratios = w.5; wraps = w.6 })

    is_ready_law : is_ready b u l ≡ true
    is_ready_law = sym (ready b u l h.fits fits_list_law {r = true} (sym table_usable))

    scale_plain : built b u l ≡ sized_of (implicit ∷ is)
    unfolding built
    scale_plain = rw is_ready_law (ap sized_of h.items)

    acts : Acts t l is (beside b u)
    acts = record {
      builder = refl;
      items = h.items;
      others = h.others (length is + 1) (omega arith);
      places = h.places;
      usable = table_usable;
      next = next_call;
      scale = scale_plain;
      answer = ap (counted b) scale_plain;
    }

  run_acts : (cs : List Call) (is : List Item) (u : ItemTable) → Held is u →
      Acts t l (plain_calls room is cs) (after_calls (beside (builder_for room is) u) cs)
  unfolding after_calls plain_calls
  run_acts [] is u h = acts is u h
  run_acts (c ∷ cs) is u h =
      let g = call_goes is u h c in
      rw g.1.0 (run_acts cs (plain_after is (plain_call room is c)) g.0 g.1.1)

  -- FROM A NEW BUILDER: after any run of calls it acts as the plain list
  pub calls_act : 0 < room → (cs : List Call) →
      (builder_of t l ≡ gives (builder_for room []))
      × Acts t l (plain_calls room [] cs) (after_calls (beside (builder_for room []) (after_new t l)) cs)
  unfolding are_usable
  calls_act some cs =
      let none : Held [] (after_new t l) = record {
        items = new_items t l some;
        others = λ k m. ap (behind k) (new_table t l some) ∙ behind_written k t 0 implicit (omega (arith, m));
        places = ap lengths_of (new_table t l some) ∙ lengths_written t 0 implicit;
        fits = new_fits t l some;
        usable = refl;
      } in
      (rw (lt-ltb 0 room some), run_acts cs [] (after_new t l) none)

-- and the plain list is the accepted ones of what was pushed, as far as there are places (`accepted_of` of specs/Builder.antt)
module _ (room : ℕ) (cs : List Call) (gs : List Item)
    (rest : (js : List Item) → plain_calls room js cs ≡ js ++ accepted_of (room - (length js + 1)) gs) where
  -- how many places are left after these
  abbrev left : List Item → ℕ
  left is = room - (length is + 1)

  item_accepted : (is : List Item) (i : Item) →
      plain_calls room (plain_after is (plain_push room is i)) cs ≡ is ++ accepted_of (room - (length is + 1)) (i ∷ gs)
  unfolding accepted_of
  item_accepted is i = go (is_usable i) (ltb (length is + 1) room) refl refl
    where
      go : (x y : Bool) → is_usable i ≡ x → ltb (length is + 1) room ≡ y
          → plain_calls room (plain_after is (push_by x y is i)) cs
          ≡ is ++ pick (x && ltb 0 (left is)) (i ∷ accepted_of (left is - 1) gs) (accepted_of (left is) gs)
      go true true x y =
          let n : room - (length (is ++ (i ∷ [])) + 1) ≡ left is - 1 = omega (arith, length-append is (i ∷ [])) in
          rw (lt-ltb 0 (left is) (omega (arith, ltb-true (length is + 1) room y)), ← n)
          (rest (is ++ (i ∷ [])) ∙ append_assoc is (i ∷ []) (accepted_of (room - (length (is ++ (i ∷ [])) + 1)) gs))
      go true false x y = rw (le-ltb 0 (left is) (omega (arith, ltb-false (length is + 1) room y))) (rest is)
      go false y x z = rest is

  ratio_accepted : (is : List Item) (x : Said Float) →
      plain_calls room (plain_after is (ratio_by room is x)) cs ≡ is ++ accepted_of (left is) (with_cents x gs)
  ratio_accepted is (gives c) = item_accepted is (Cents c)
  ratio_accepted is (refuses n d) = rest is

pub plain_accepted : (room : ℕ) (cs : List Call) (is : List Item) →
    plain_calls room is cs ≡ is ++ accepted_of (room - (length is + 1)) (items_given cs)
unfolding plain_calls items_given accepted_of
plain_accepted room [] is = sym (append-nil is)
plain_accepted room (Call.cents c ∷ cs) is = item_accepted room cs (items_given cs) (plain_accepted room cs) is (Cents c)
plain_accepted room (Call.ratio r ∷ cs) is = ratio_accepted room cs (items_given cs) (plain_accepted room cs) is (as_cents r)
plain_accepted room (Call.int n ∷ cs) is = item_accepted room cs (items_given cs) (plain_accepted room cs) is (Fraction n None)
plain_accepted room (Call.fraction n d ∷ cs) is = item_accepted room cs (items_given cs) (plain_accepted room cs) is (Fraction n (Some d))
