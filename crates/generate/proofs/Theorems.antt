-- What an accepted generator leaves, and when it is accepted. Document 01, "Scales and searches". Assumes nothing.
use mathlib.Core.Path.{◌≡◌, refl, sym, ◌∙◌, ap}
use mathlib.Core.Logic.{◌↔◌, ◌⊎◌, inl, inr}
use mathlib.Core.Bool.{Bool, true, false}
use mathlib.Core.List.{List, ◌∷◌}
use Prim.Native.Nat.{ℕ, ◌+◌, ◌≤◌, ◌<◌}
use native.Mathlib.Omega.{arith}
use lib.ListN.{length}
use Rattle.base.specs.Numbers.{beyond_reach}
use Rattle.base.specs.Said.{Said, gives, refuses, pick, One}
use Rattle.base.proofs.Said.{one_result, no_refusal}
use Rattle.floats.specs.Floats.{one_f}
use Rattle.sorting.specs.Entries.{Entry}
use Rattle.sorted.specs.Lent.{ListTable, is_list}
use Rattle.scl.specs.Items.{ratio_of, AllHeld}
use Rattle.scl.specs.Table.{ItemTable, items_in, implicit, are_usable, is_items}
use Rattle.scl.proofs.Table.{length_first, items_roomy}
use Rattle.scl.specs.declared.Item.{Item}
use Rattle.scl_tables.specs.Build.{last_of, count_of, sorted_of, scale_of, is_beyond, after_list}
use Rattle.scl_tables.specs.Room.{room_of}
use Rattle.scl_tables.proofs.Beyond.{scale_looks}
use Rattle.scl_tables.proofs.Theorems.{beyond_reach_is}
use Rattle.scl_build.specs.Builder as Built
use Rattle.scl_build.specs.declared.SclBuilder.{SclBuilder}
use Rattle.scl_build.proofs.Theorems.{run_items, build_leaves}
use Rattle.generate.specs.Generated.{all_pushed, list_of, made_of, Leaves}
use Rattle.generate.proofs.Made.{accepted, all_usable, implicit_held, list_looks, some_list, made_beyond, made_given}

module _ (t : ItemTable) (l : ListTable) (is : List Item) (few : length is ≤ 65535) (room : length is < room_of t l) (usable : are_usable is ≡ true) (held : AllHeld is) where
  -- how many items the builder has, and which
  pub left_items : items_in (all_pushed t l is).builder.count (all_pushed t l is).table ≡ implicit ∷ is
  left_items = run_items t l (omega arith) is ∙ ap (λ (x : List Item). implicit ∷ x) (accepted t l is few room usable held)

  module _ (within : is_beyond (length is) (last_of (implicit ∷ is)) ≡ false) where
    abbrev b : SclBuilder
    b = (all_pushed t l is).builder

    abbrev left : ItemTable
    left = (all_pushed t l is).table

    -- the build is accepted
    pub listed : list_of t l is ≡ gives (some_list t l is few room usable held).0
    listed = list_looks t l is few room usable held ∙ rw within (some_list t l is few room usable held).1

    held_left : AllHeld (items_in b.count left)
    held_left = rw left_items (implicit_held, held)

    built_leaves : Built.Leaves b.count left (after_list (gives (some_list t l is few room usable held).0) l)
    built_leaves = build_leaves b left l (some_list t l is few room usable held).0 held_left listed

    pub count_is : b.count ≡ length is
    count_is = omega (arith, length_first (b.count + 1) left (items_roomy b.count left built_leaves.items), ap length left_items)

    -- WHAT IT LEAVES: place 0 and the items, tables that every later call takes
    pub leaves : Leaves t l is
    leaves = record {
      items_are = ap (λ (n : ℕ). items_in n left) (sym count_is) ∙ left_items;
      usable = ap (λ (n : ℕ). is_items n left) (sym count_is) ∙ built_leaves.items;
      list = ap (λ (n : ℕ). is_list n (after_list (list_of t l is) l)) (sym count_is) ∙ ap (λ (s : Said (List Entry)). is_list b.count (after_list s l)) listed ∙ built_leaves.list;
      small = few;
    }

  -- WHEN: 18 exactly for two or more items with the period 1.0, else accepted
  pub beyond_when : (made_of t l (length is) (gives is) ≡ refuses beyond_reach 0) ↔ ((2 ≤ length is) × (ratio_of (last_of (implicit ∷ is)) ≡ gives one_f))
  beyond_when =
      let k = beyond_reach_is (implicit ∷ is) (omega arith) (implicit_held, held) (all_usable t l is few room usable held) in
      let n : count_of (implicit ∷ is) ≡ length is = omega arith in (
        (λ e. let x = k.0 (scale_beyond e) in (omega (arith, x.0, n), x.1)),
        (λ x. made_beyond t l is few room usable held (is_beyond_law (k.1 (omega (arith, x.0, n), x.1)))),
      )
    where
      looked : scale_of (implicit ∷ is) ≡ pick (is_beyond (length is) (last_of (implicit ∷ is))) (refuses beyond_reach 0) (sorted_of (implicit ∷ is))
      looked = let n : count_of (implicit ∷ is) ≡ length is = omega arith in scale_looks (implicit ∷ is) ∙ ap (λ (k : ℕ). pick (is_beyond k (last_of (implicit ∷ is))) (refuses beyond_reach 0) (sorted_of (implicit ∷ is))) n

      is_beyond_law : scale_of (implicit ∷ is) ≡ refuses beyond_reach 0 → is_beyond (length is) (last_of (implicit ∷ is)) ≡ true
      is_beyond_law e = go (is_beyond (length is) (last_of (implicit ∷ is))) (sym looked ∙ e)
        where
          go : (x : Bool) → pick x (refuses beyond_reach 0) (sorted_of (implicit ∷ is)) ≡ refuses beyond_reach 0 → x ≡ true
          go true q = refl
          go false q = no_refusal (sym (some_list t l is few room usable held).1 ∙ q)

      scale_beyond : made_of t l (length is) (gives is) ≡ refuses beyond_reach 0 → scale_of (implicit ∷ is) ≡ refuses beyond_reach 0
      scale_beyond e = go (is_beyond (length is) (last_of (implicit ∷ is))) refl
        where
          go : (x : Bool) → is_beyond (length is) (last_of (implicit ∷ is)) ≡ x → scale_of (implicit ∷ is) ≡ refuses beyond_reach 0
          go true q = looked ∙ rw q
          go false q = no_refusal (sym (made_given t l is few room usable held q) ∙ e)

  pub accepted_or : (made_of t l (length is) (gives is) ≡ gives is) ⊎ (made_of t l (length is) (gives is) ≡ refuses beyond_reach 0)
  accepted_or = go (is_beyond (length is) (last_of (implicit ∷ is))) refl
    where
      go : (x : Bool) → is_beyond (length is) (last_of (implicit ∷ is)) ≡ x → (made_of t l (length is) (gives is) ≡ gives is) ⊎ (made_of t l (length is) (gives is) ≡ refuses beyond_reach 0)
      go true q = inr (made_beyond t l is few room usable held q)
      go false q = inl (made_given t l is few room usable held q)

  -- so what is accepted leaves that
  pub made_leaves : made_of t l (length is) (gives is) ≡ gives is → Leaves t l is
  made_leaves e = go (is_beyond (length is) (last_of (implicit ∷ is))) refl
    where
      go : (x : Bool) → is_beyond (length is) (last_of (implicit ∷ is)) ≡ x → Leaves t l is
      go true q = no_refusal (sym e ∙ made_beyond t l is few room usable held q)
      go false q = leaves q

-- ---- two results of one input are equal
pub begin_one : (t : ItemTable) (l : ListTable) → One (λ r. r) (Built.state (room_of t l) 0) × One (λ r. r) (Built.after_new t l)
begin_one t l = (one_result (Built.state (room_of t l) 0), one_result (Built.after_new t l))
