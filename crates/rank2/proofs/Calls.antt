-- What the call comes to: its tests, the look at the highest note, and what is written. Assumes nothing.
use mathlib.Core.Path.{◌≡◌, refl, sym, ◌∙◌, ap}
use mathlib.Core.Bool.{Bool, true, false, not, ◌&&◌}
use mathlib.Core.List.{List, ◌∷◌}
use Prim.Native.Nat.{ℕ, suc, ◌≤◌, ◌<◌}
use native.Mathlib.Omega.{arith}
use lib.Ieee.{Float, binary64, fits, eq}
use lib.ListN.{length, take}
use borrow.Author.Tests.{le-leb, lt-leb}
use Rattle.base.specs.Numbers.{unusable, too_large, no_room, beyond_reach}
use Rattle.base.specs.Said.{Said, gives, refuses, and_then}
use Rattle.base.proofs.Said.{same_value}
use Rattle.floats.specs.Floats.{zero_f}
use Rattle.floats.specs.Ranges.{in_generator}
use Rattle.explog.specs.Rules.{L}
use Rattle.pitch.specs.Ratios.{as_cents}
use Rattle.sorting.specs.Entries.{Entry}
use Rattle.sorted.specs.Lent.{ListTable}
use Rattle.scl.specs.Table.{ItemTable, implicit}
use Rattle.scl.specs.declared.Item.{Item}
use Rattle.scl.specs.declared.Item.TheVariants.{Cents}
use Rattle.scl.proofs.Table.{both}
use Rattle.scl_tables.specs.Build.{last_of, is_none, is_beyond, after_list}
use Rattle.scl_tables.specs.Room.{room_of}
use Rattle.scl_tables.proofs.Theorems.{list_leaves}
use Rattle.scl_build.specs.Builder.{Built, beside, state, after_new, built, counted}
use Rattle.scl_build.specs.declared.SclBuilder.{SclBuilder}
use Rattle.generate.specs.Generated.{all_pushed, list_of, made_of, counted_of, items_left, list_left}
use Rattle.generate.proofs.Made.{implicit_held, all_usable, some_list, made_no_room, made_beyond, made_given, all_given}
use Rattle.generate.proofs.Theorems.{listed, count_is}
use Rattle.rank2.specs.Asked.{SomeCents}
use Rattle.rank2.specs.Notes.{pitch_at, highest_from, ascending}
use Rattle.rank2.specs.Rank2.{note_count, is_temperament, ascending_ratios, pushed_as, ascending_items, temperament_of, made_rank2}
use Rattle.rank2.specs.Steps.{beyond_of, after_ratios, ran_of, Behind}
use Rattle.rank2.proofs.Ascends.{last_after}
use Rattle.rank2.proofs.Given.{log_said, reach}
use Rattle.rank2.proofs.Some.{period_some}
use Rattle.rank2.proofs.Behind.{same_room, same_new, same_built, same_list}
use Rattle.rank2.proofs.Pushes.{Pushed, Cented, cented, all_items, last_item, ratios_run}
use Rattle.rank2.proofs.Values.{Values, sort_ranged, sort_length, ascending_said, top_said, last_within}

-- ---- n pitch values that are said
module _ (f : ℕ → Said Float) (n : ℕ) (v : Values f 0 n) where
  -- the items that are pushed
  pub pushed_of : Pushed (ascending v.values)
  pushed_of = all_items (ascending v.values) (sort_ranged v.values v.ranged)

  pub items_said : ascending_items f n ≡ gives pushed_of.items
  items_said = ap (λ (s : Said (List Float)). and_then s pushed_as) (ascending_said f n v) ∙ pushed_of.are

  pub items_count : length pushed_of.items ≡ n
  items_count = pushed_of.size ∙ sort_length v.values ∙ v.size

  module _ (some : 0 < n) where
    -- the cents of the highest note are the last item
    pub top : Cented (last_after zero_f (ascending v.values))
    top = cented (last_after zero_f (ascending v.values)) (last_within f n v some)

    pub last_is : last_of (implicit ∷ pushed_of.items) ≡ Cents top.cents
    last_is = last_item (ascending v.values) (sort_ranged v.values v.ranged) (omega (arith, some, sort_length v.values, v.size)) pushed_of.are top.is

    -- the look at the highest note is one at the last item
    pub beyond_said : beyond_of f n ≡ gives (is_beyond (length pushed_of.items) (last_of (implicit ∷ pushed_of.items)))
    unfolding beyond_of
    beyond_said =
        ap (λ (s : Said Float). and_then s (λ x. and_then (as_cents x) (λ c. gives (is_beyond n (Cents c))))) (top_said f n v)
        ∙ ap (λ (s : Said Float). and_then s (λ c. gives (is_beyond n (Cents c)))) top.is
        ∙ ap (λ (i : Item). gives (is_beyond n i)) (sym last_is)
        ∙ ap (λ (k : ℕ). gives (is_beyond k (last_of (implicit ∷ pushed_of.items)))) (sym items_count)

    module _ (t : ItemTable) (l : ListTable) (small : n ≤ 65535) (room : n < room_of t l) where
      abbrev is : List Item
      is = pushed_of.items

      few : length is ≤ 65535
      few = omega (arith, items_count, small)

      fit : length is < room_of t l
      fit = omega (arith, items_count, room)

      abbrev made : Said (List Item)
      made = made_of t l n (ascending_items f n)

      made_by : made ≡ made_of t l (length is) (gives is)
      made_by = ap (made_of t l n) items_said ∙ ap (λ (k : ℕ). made_of t l k (gives is)) (sym items_count)

      looks : {b : Bool} → gives b ≡ beyond_of f n → is_beyond (length is) (last_of (implicit ∷ is)) ≡ b
      looks {b} e = same_value (is_beyond (length is) (last_of (implicit ∷ is))) b (sym beyond_said ∙ sym e)

      pub make_beyond : gives true ≡ beyond_of f n → made ≡ refuses beyond_reach 0
      make_beyond e = made_by ∙ made_beyond t l is few fit pushed_of.usable pushed_of.held (looks e)

      module _ (e : gives false ≡ beyond_of f n) where
        within : is_beyond (length is) (last_of (implicit ∷ is)) ≡ false
        within = looks e

        make_given : made ≡ gives is
        make_given = made_by ∙ made_given t l is few fit pushed_of.usable pushed_of.held within

        abbrev entries : List Entry
        entries = (some_list t l is few fit pushed_of.usable pushed_of.held).0

        listed_is : list_of t l is ≡ gives entries
        listed_is = listed t l is few fit pushed_of.usable pushed_of.held within

        entries_count : length entries ≡ suc (length is)
        entries_count = (list_leaves (implicit ∷ is) (omega arith) (implicit_held, pushed_of.held) (all_usable t l is few fit pushed_of.usable pushed_of.held) entries (some_list t l is few fit pushed_of.usable pushed_of.held).1).size

        -- the notes stand in the list's first places, the rest is as it was: the run over them is the definition's
        module _ {l' : ListTable} (b : Behind n l l') (notes : gives (take n l'.ratios) ≡ ascending_ratios f n) where
          ran_is : ran_of t l' n ≡ all_pushed t l is
          ran_is =
              let q : take n l'.ratios ≡ ascending v.values = same_value (take n l'.ratios) (ascending v.values) (notes ∙ ascending_said f n v) in
              ap (λ (k : ℕ). after_ratios (beside (state k 0) (after_new t l')) (take n l'.ratios)) (same_room b t)
              ∙ ap (λ (z : ItemTable). after_ratios (beside (state (room_of t l) 0) z) (take n l'.ratios)) (same_new b t)
              ∙ ap (after_ratios (beside (state (room_of t l) 0) (after_new t l))) q
              ∙ ratios_run (ascending v.values) (beside (state (room_of t l) 0) (after_new t l)) pushed_of.are

          built_is : built (ran_of t l' n).builder (ran_of t l' n).table l' ≡ gives entries
          built_is = ap (λ (z : Built). built z.builder z.table l') ran_is ∙ same_built b (all_pushed t l is).builder (all_pushed t l is).table ∙ listed_is

          pub make_all : {x : Said ℕ} {t'' : ItemTable} {l'' : ListTable}
              → x ≡ counted (ran_of t l' n).builder (built (ran_of t l' n).builder (ran_of t l' n).table l')
              → t'' ≡ (ran_of t l' n).table
              → l'' ≡ after_list (built (ran_of t l' n).builder (ran_of t l' n).table l') l'
              → (x ≡ counted_of made) × (t'' ≡ items_left made t l) × (l'' ≡ list_left made t l)
          make_all ex et el =
              let a = all_given t l make_given (et ∙ ap (λ (z : Built). z.table) ran_is)
              (el ∙ ap (λ (s : Said (List Entry)). after_list s l') built_is ∙ same_list b entries (omega (arith, entries_count, items_count)) ∙ ap (λ (s : Said (List Entry)). after_list s l) (sym listed_is)) in (
                ex ∙ ap (counted (ran_of t l' n).builder) built_is
                    ∙ ap (λ (z : Built). gives z.builder.count) ran_is
                    ∙ ap gives (count_is t l is few fit pushed_of.usable pushed_of.held within) ∙ a.0,
                a.1,
                a.2,
              )

-- ---- the look at the highest note
pub beyond_look : (f : ℕ → Said Float) (n : ℕ) {top c : Float} {r : Bool} → gives top ≡ highest_from f 0 n → gives c ≡ as_cents top → r ≡ is_beyond n (Cents c) → gives r ≡ beyond_of f n
unfolding beyond_of
beyond_look f n e p q = rw (← e, ← p) (ap gives q)

-- ---- the tests
pub some_octaves : (b : Bool) {s : Said Float} {octaves : Float} → gives octaves ≡ s → b ≡ eq octaves zero_f → not b ≡ not (is_none s)
some_octaves b e q = ap not (q ∙ ap is_none e)

pub no_octaves : {s : Said Float} {a d : ℕ} → refuses a d ≡ s → true ≡ not (is_none s)
no_octaves e = ap (λ (s : Said Float). not (is_none s)) e

module _ (generator period : Float) {a : Bool} (ea : a ≡ in_generator generator) where
  pub no_generator : a ≡ false → false ≡ is_temperament generator period
  no_generator ta = rw (sym ea ∙ ta)

  module _ (ta : a ≡ true) {b : Bool} (eb : b ≡ in_generator period) where
    pub no_period : b ≡ false → false ≡ is_temperament generator period
    no_period tb = rw (sym ea ∙ ta, sym eb ∙ tb)

    pub a_period : b ≡ true → {r : Bool} → r ≡ not (is_none (L period)) → r ≡ is_temperament generator period
    a_period tb er = rw (sym ea ∙ ta, sym eb ∙ tb) er

-- what a temperament that can be used is
pub record Temperament (generator period : Float) : Type 0 where
  pub by : in_generator generator ≡ true
  pub within : in_generator period ≡ true
  pub some : is_none (L period) ≡ false

pub temperament_says : (generator period : Float) → is_temperament generator period ≡ true → Temperament generator period
temperament_says generator period h =
    let a = both (in_generator generator) (in_generator period && not (is_none (L period))) h in
    let b = both (in_generator period) (not (is_none (L period))) a.1 in
    record { by = a.0; within = b.0; some = go (is_none (L period)) b.1 }
  where
    go : (x : Bool) → not x ≡ true → x ≡ false
    go true q = sym q
    go false q = refl

-- its period has cents that are not 0
pub period_cents : (period : Float) → fits binary64 period ≡ true → in_generator period ≡ true → is_none (L period) ≡ false → {c : Float} → gives c ≡ as_cents period → SomeCents c
period_cents period held g none e =
    let s = log_said period (reach period held g) in
    period_some period held g s (ap is_none (sym s) ∙ none) e

-- ---- THE CALL
module _ (t : ItemTable) (l : ListTable) (generator : Float) (positive negative : ℕ) (period : Float) where
  abbrev n : ℕ
  n = note_count positive negative

  abbrev call : Said (List Item)
  call = made_rank2 t l generator positive negative period

  pub too_many : 65535 < n → call ≡ refuses too_large 0
  unfolding made_rank2
  too_many h = rw (lt-leb n 65535 h)

  module _ (few : n ≤ 65535) where
    pub not_usable : is_temperament generator period ≡ false → call ≡ refuses unusable 0
    unfolding made_rank2
    not_usable h = rw (le-leb n 65535 few, h)

    module _ (h : is_temperament generator period ≡ true) where
      pub no_place : room_of t l ≤ n → call ≡ refuses no_room 0
      unfolding made_rank2
      no_place r = rw (le-leb n 65535 few, h) (made_no_room t l n (temperament_of generator positive negative period) r)

      pub call_is : {g p : Float} → gives g ≡ as_cents generator → gives p ≡ as_cents period → made_of t l n (ascending_items (pitch_at period g p positive) n) ≡ call
      unfolding made_rank2
      call_is eg ep = rw (le-leb n 65535 few, h, ← eg, ← ep)

-- ---- a new builder, the pushes, the build: the run over the list's first ratios
module _ (t : ItemTable) (l : ListTable) (n : ℕ) {b s : SclBuilder} {t₁ t₂ : ItemTable} (new : s ≡ state (room_of t l) 0) (first : t₁ ≡ after_new t l) (pushes : beside b t₂ ≡ after_ratios (beside s t₁) (take n l.ratios)) where
  the_run : beside b t₂ ≡ ran_of t l n
  the_run = pushes ∙ rw (new, first)

  pub ran_left : {x : Said ℕ} {l' : ListTable} → (x ≡ counted b (built b t₂ l)) × (l' ≡ after_list (built b t₂ l) l)
      → (x ≡ counted (ran_of t l n).builder (built (ran_of t l n).builder (ran_of t l n).table l)) × (t₂ ≡ (ran_of t l n).table) × (l' ≡ after_list (built (ran_of t l n).builder (ran_of t l n).table l) l)
  ran_left e = (
    e.0 ∙ ap (λ (z : Built). counted z.builder (built z.builder z.table l)) the_run,
    ap (λ (z : Built). z.table) the_run,
    e.1 ∙ ap (λ (z : Built). after_list (built z.builder z.table l) l) the_run,
  )
