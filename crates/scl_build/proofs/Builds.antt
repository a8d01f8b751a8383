-- What a build comes to, by the tests that the code makes. Assumes nothing.
use mathlib.Core.Path.{◌≡◌, refl, sym, ◌∙◌, ap}
use mathlib.Core.Bool.{Bool, true, false, ◌&&◌}
use mathlib.Core.List.{List}
use Prim.Native.Nat.{ℕ, ◌+◌, ◌≤◌, ◌<◌}
use native.Mathlib.Omega.{arith}
use lib.ListN.{length, get_or}
use lib.Ieee.{nan}
use borrow.Author.Tests.{le-leb, lt-leb}
use Rattle.base.specs.Numbers.{unusable, too_large, beyond_reach}
use Rattle.base.specs.Said.{Said, gives, refuses, pick}
use Rattle.base.proofs.Pick.{true_not_false}
use Rattle.sorting.specs.Entries.{Entry}
use Rattle.sorted.specs.Lent.{ListTable}
use Rattle.scl.specs.Items.{is_usable}
use Rattle.scl.specs.Table.{ItemTable, no_item, item_of, items_in, is_items}
use Rattle.scl.specs.declared.Item.{Item}
use Rattle.scl.proofs.Table.{both, usable_at, length_first, first_at, items_roomy, items_usable}
use Rattle.scl_tables.specs.Build.{last_of, count_of, sorted_of, is_beyond, is_given, after_list}
use Rattle.scl_tables.proofs.Beyond.{scale_looks}
use Rattle.scl_build.specs.Builder.{fits_items, fits_list, is_ready, built, counted}
use Rattle.scl_build.specs.declared.SclBuilder.{SclBuilder}
use Rattle.scl_build.proofs.Pushes.{fit_says, FitList, fit_list_says}

-- ---- whether the state is ready
module _ (b : SclBuilder) (t : ItemTable) (l : ListTable) where
  pub ready : fits_items b t ≡ true → fits_list b l ≡ true → {r : Bool} → r ≡ is_items b.count t → r ≡ is_ready b t l
  ready f g e = rw (f, g) e

  -- ---- the answer, and the list that goes with it
  pub build_refused : {n d : ℕ} → built b t l ≡ refuses n d → (refuses n d ≡ counted b (built b t l)) × (l ≡ after_list (built b t l) l)
  build_refused e = (ap (counted b) (sym e), ap (λ (s : Said (List Entry)). after_list s l) (sym e))

  given_counts : (s : Said (List Entry)) → is_given s ≡ true → gives b.count ≡ counted b s
  given_counts (gives es) h = refl
  given_counts (refuses n d) h = absurd (true_not_false (sym h))

  pub build_given : {s : Said (List Entry)} → built b t l ≡ s → is_given s ≡ true → {l' : ListTable} → l' ≡ after_list s l → (gives b.count ≡ counted b (built b t l)) × (l' ≡ after_list (built b t l) l)
  build_given {s} e g w = (given_counts s g ∙ ap (counted b) (sym e), w ∙ ap (λ (x : Said (List Entry)). after_list x l) (sym e))

  pub not_ready : is_ready b t l ≡ false → built b t l ≡ refuses unusable 0
  unfolding built
  not_ready h = rw h

  module _ (h : is_ready b t l ≡ true) where
    rest : (fits_items b t ≡ true) × ((fits_list b l && is_items b.count t) ≡ true)
    rest = both (fits_items b t) (fits_list b l && is_items b.count t) h

    pub ready_items : is_items b.count t ≡ true
    ready_items = (both (fits_list b l) (is_items b.count t) rest.1).1

    ready_list : FitList b l
    ready_list = fit_list_says b l (both (fits_list b l) (is_items b.count t) rest.1).0

    pub places_room : b.count < length l.places
    places_room = omega (arith, (fit_says b t rest.0).inside, ready_list.places)

    pub ratios_room : b.count < length l.ratios
    ratios_room = omega (arith, (fit_says b t rest.0).inside, ready_list.ratios)

    pub wraps_room : b.count < length l.wraps
    wraps_room = omega (arith, (fit_says b t rest.0).inside, ready_list.wraps)

    pub items_room : (b.count < length t.kinds) × (b.count < length t.cents) × (b.count < length t.numers) × (b.count < length t.denoms)
    items_room =
        let r = items_roomy b.count t ready_items in
        (omega (arith, r.kinds), omega (arith, r.cents), omega (arith, r.numers), omega (arith, r.denoms))

    -- place 0 is no item
    pub ready_count : count_of (items_in b.count t) ≡ b.count
    ready_count = omega (arith, length_first (b.count + 1) t (items_roomy b.count t ready_items))

    -- the last item is the one at the last place
    pub ready_last : last_of (items_in b.count t) ≡ item_of (get_or t.kinds b.count 0) (get_or t.cents b.count nan) (get_or t.numers b.count 0) (get_or t.denoms b.count 0)
    ready_last =
        ap (λ (n : ℕ). get_or (items_in b.count t) n no_item) ready_count
        ∙ first_at (b.count + 1) t (items_roomy b.count t ready_items) b.count (omega arith)

    pub last_usable : is_usable (last_of (items_in b.count t)) ≡ true
    last_usable =
        let n = length_first (b.count + 1) t (items_roomy b.count t ready_items) in
        usable_at (items_in b.count t) (count_of (items_in b.count t)) (items_usable b.count t ready_items) (omega (arith, n))

    pub too_many : 65535 < b.count → built b t l ≡ refuses too_large 0
    unfolding built
    too_many big = rw (h, ready_count, lt-leb b.count 65535 big)

    module _ (few : b.count ≤ 65535) {last : Item} (is : last ≡ item_of (get_or t.kinds b.count 0) (get_or t.cents b.count nan) (get_or t.numers b.count 0) (get_or t.denoms b.count 0)) where
      looked : built b t l ≡ pick (is_beyond b.count last) (refuses beyond_reach 0) (sorted_of (items_in b.count t))
      unfolding built
      looked =
          rw (h, ready_count, le-leb b.count 65535 few, is, ← ready_last)
          (scale_looks (items_in b.count t) ∙ ap (λ (n : ℕ). pick (is_beyond n (last_of (items_in b.count t))) (refuses beyond_reach 0) (sorted_of (items_in b.count t))) ready_count)

      pub beyond : is_beyond b.count last ≡ true → built b t l ≡ refuses beyond_reach 0
      beyond e = looked ∙ rw e

      pub within : is_beyond b.count last ≡ false → built b t l ≡ sorted_of (items_in b.count t)
      within e = looked ∙ rw e
