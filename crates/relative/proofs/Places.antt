-- Usable lent tables: what stands at their places. Assumes nothing.
use mathlib.Core.Path.{◌≡◌, refl, sym, ◌∙◌, ap, subst}
use mathlib.Core.Bool.{true}
use Prim.Native.Nat.{ℕ, ◌+◌, ◌-◌, ◌≤◌, ◌<◌}
use native.Mathlib.Omega.{arith}
use lib.IntN.{pos}
use lib.ListN.{length, get_or, take}
use lib.Seq.{get_or-take, length-take-le}
use lib.Ieee.{Float, nan}
use Rattle.floats.specs.Ranges.{in_reach}
use Rattle.sorting.specs.Stable.{NeverFalls}
use Rattle.sorting.proofs.Columns.{length_zip, zip_at}
use Rattle.sorted.specs.Lent.{ListTable, ratios_of, list_in, AllInReach, is_list, Listed}
use Rattle.sorted.proofs.Lists.{list_is, list_columns}
use Rattle.scl.specs.Items.{is_usable}
use Rattle.scl.specs.Table.{ItemTable, no_item, item_of, items_in, is_items, Items}
use Rattle.scl.specs.declared.Item.{Item}
use Rattle.scl.proofs.Table.{items_are, items_roomy, length_first, first_at}
use Rattle.scl_tables.specs.Build.{last_of}
use Rattle.relative.specs.Scales.{no_entry}

-- ---- items
module _ (count : ℕ) (t : ItemTable) (h : is_items count t ≡ true) where
  pub items_room : Items count t
  items_room = (items_are count t).0 h

  pub items_length : length (items_in count t) ≡ count + 1
  items_length = length_first (count + 1) t (items_roomy count t h)

  pub items_at : (i : ℕ) → i ≤ count → get_or (items_in count t) i no_item ≡ item_of (get_or t.kinds i 0) (get_or t.cents i nan) (get_or t.numers i 0) (get_or t.denoms i 0)
  items_at i l = first_at (count + 1) t (items_roomy count t h) i (omega (arith, l))

  pub items_usable_at : (i : ℕ) → i ≤ count → is_usable (item_of (get_or t.kinds i 0) (get_or t.cents i nan) (get_or t.numers i 0) (get_or t.denoms i 0)) ≡ true
  items_usable_at i l = subst (λ (x : Item). is_usable x ≡ true) (items_at i l) (items_room.usable i (omega (arith, l, items_length)))

  -- the items of the table are those after place 0
  pub items_count : length (items_in count t) - 1 ≡ count
  items_count = omega (arith, items_length)

  pub items_last : get_or (items_in count t) count no_item ≡ last_of (items_in count t)
  items_last = ap (λ (i : ℕ). get_or (items_in count t) i no_item) (sym items_count)

-- ---- the list
module _ (count : ℕ) (l : ListTable) (h : is_list count l ≡ true) where
  pub list_room : Listed count l
  list_room = (list_is count l).0 h

  places_part : length (take (count + 1) l.places) ≡ count + 1
  places_part = length-take-le (count + 1) l.places (omega (arith, list_room.places_room))

  pub ratios_part : length (take (count + 1) l.ratios) ≡ count + 1
  ratios_part = length-take-le (count + 1) l.ratios (omega (arith, list_room.ratios_room))

  wraps_part : length (take (count + 1) l.wraps) ≡ count + 1
  wraps_part = length-take-le (count + 1) l.wraps (omega (arith, list_room.wraps_room))

  pub list_length : length (list_in count l) ≡ count + 1
  list_length = length_zip (take (count + 1) l.places) (take (count + 1) l.ratios) (take (count + 1) l.wraps) (ratios_part ∙ sym places_part) (wraps_part ∙ sym places_part) ∙ places_part

  pub list_count : length (list_in count l) - 1 ≡ count
  list_count = omega (arith, list_length)

  pub list_at : (i : ℕ) → i ≤ count → get_or (list_in count l) i no_entry ≡ record { place = get_or l.places i 0; ratio = get_or l.ratios i nan; wraps = get_or l.wraps i (pos 0) }
  list_at i k =
      let n : i < count + 1 = omega (arith, k) in
      zip_at (take (count + 1) l.places) (take (count + 1) l.ratios) (take (count + 1) l.wraps) i (ratios_part ∙ sym places_part) (wraps_part ∙ sym places_part) (omega (arith, k, places_part))
      ∙ rw (get_or-take (count + 1) l.places i 0 n, get_or-take (count + 1) l.ratios i nan n, get_or-take (count + 1) l.wraps i (pos 0) n) refl

  -- the ratios are the first places of their column
  pub list_ratios : take (count + 1) l.ratios ≡ ratios_of (list_in count l)
  list_ratios = (list_columns count l list_room.places_room list_room.ratios_room list_room.wraps_room).ratios

  pub ratios_reach : AllInReach (take (count + 1) l.ratios)
  ratios_reach = subst AllInReach (sym list_ratios) list_room.reach

  pub ratios_rise : NeverFalls (take (count + 1) l.ratios)
  ratios_rise = subst NeverFalls (sym list_ratios) list_room.rises

  pub ratio_reach : (i : ℕ) → i ≤ count → in_reach (get_or l.ratios i nan) ≡ true
  ratio_reach i k = subst (λ (x : Float). in_reach x ≡ true) (get_or-take (count + 1) l.ratios i nan (omega (arith, k))) (ratios_reach i (omega (arith, k, ratios_part)))
