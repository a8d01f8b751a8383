-- What every call of `build` comes to: its columns are of u32, so the machine holds their numbers, and nothing is asked of them.
-- Assumes nothing.
use mathlib.Core.Path.{◌≡◌, refl, ap}
use mathlib.Core.Bool.{Bool, true, false}
use mathlib.Core.Logic.{◌↔◌}
use mathlib.Core.List.{List}
use Prim.Native.Nat.{ℕ, ◌≤◌}
use native.Mathlib.Omega.{arith}
use lib.Dec.{leb}
use borrow.Author.Tests.{leb-true}
use Rattle.base.specs.Numbers.{unusable, too_large, beyond_reach}
use Rattle.base.specs.Said.{Said, gives, refuses, pick}
use Rattle.base.proofs.Said.{same_value, no_value, no_refusal, same_refuses}
use Rattle.sorting.specs.Entries.{Entry}
use Rattle.sorted.specs.Lent.{ListTable}
use Rattle.scl.specs.Table.{ItemTable, Typed, items_in}
use Rattle.scl.proofs.Typed.{typed_held}
use Rattle.scl_tables.specs.Build.{count_of, scale_of, sized_of, after_list}
use Rattle.scl_build.specs.Builder.{is_ready, built, counted, Leaves, PeriodOne, Comes}
use Rattle.scl_build.specs.declared.SclBuilder.{SclBuilder}
use Rattle.scl_build.proofs.Builds.{ready_count}
use Rattle.scl_build.proofs.Theorems.{build_beyond, build_leaves}

module _ (b : SclBuilder) (t : ItemTable) (l : ListTable) where
  -- what the call says is what its list says
  counted_refused : (s : Said (List Entry)) {n d : ℕ} → counted b s ≡ refuses n d → s ≡ refuses n d
  counted_refused (gives es) e = no_refusal e
  counted_refused (refuses n d) e = let r = same_refuses e in λ i. refuses (r.0 i) (r.1 i)

  counted_given : (s : Said (List Entry)) {n : ℕ} → counted b s ≡ gives n → (es : List Entry) × ((s ≡ gives es) × (b.count ≡ n))
  counted_given (gives es) {n} e = (es, (refl, same_value b.count n e))
  counted_given (refuses n d) e = no_value e

  -- 18 is given after 10 and 13
  ready_beyond : built b t l ≡ refuses beyond_reach 0 → (is_ready b t l ≡ true) × (b.count ≤ 65535)
  unfolding built
  ready_beyond e = go (is_ready b t l) refl e
    where
      few : is_ready b t l ≡ true → (x : Bool) → leb (count_of (items_in b.count t)) 65535 ≡ x → pick x (scale_of (items_in b.count t)) (refuses too_large 0) ≡ refuses beyond_reach 0 → b.count ≤ 65535
      few h true k q = omega (arith, leb-true (count_of (items_in b.count t)) 65535 k, ready_count b t l h)
      few h false k q = absurd (omega (arith, (same_refuses q).0))

      go : (x : Bool) → is_ready b t l ≡ x → pick x (sized_of (items_in b.count t)) (refuses unusable 0) ≡ refuses beyond_reach 0 → (is_ready b t l ≡ true) × (b.count ≤ 65535)
      go true h q = (h, few h (leb (count_of (items_in b.count t)) 65535) refl q)
      go false h q = absurd (omega (arith, (same_refuses q).0))

  module _ (typed : Typed t) where
    beyond_exactly : (counted b (built b t l) ≡ refuses beyond_reach 0) ↔ PeriodOne b t l
    beyond_exactly = (
      (λ e.
          let q = counted_refused (built b t l) e in
          let r = ready_beyond q in
          let x = (build_beyond b t l r.0 r.1 (typed_held t typed b.count)).0 q in
          (r.0, (r.1, (x.0, x.1)))),
      (λ p. ap (counted b) ((build_beyond b t l p.0 p.1.0 (typed_held t typed b.count)).1 p.1.1)),
    )

    leaves_given : (n : ℕ) → counted b (built b t l) ≡ gives n → Leaves n t (after_list (built b t l) l)
    leaves_given n e =
        let g = counted_given (built b t l) e in
        rw (← g.1.1, g.1.0) (build_leaves b t l g.0 (typed_held t typed b.count) g.1.0)

    -- of the call, by its answer and the list after it
    pub comes_too : {said : Said ℕ} {left : ListTable} → (said ≡ counted b (built b t l)) × (left ≡ after_list (built b t l) l)
        → ((said ≡ counted b (built b t l)) × (left ≡ after_list (built b t l) l)) × Comes b t l said left
    comes_too {said} {left} h = (h, record { beyond = rw h.0 beyond_exactly; leaves = rw (h.0, h.1) leaves_given })

-- what both clauses of a build ask for
pub value_and_comes : {A B : Type 0} → A × B → record { value : A; comes : B }
value_and_comes p = record { value = p.0; comes = p.1 }
