-- What a generator's run comes to, where its items can be used and have room. Assumes nothing.
use mathlib.Core.Path.{◌≡◌, refl, sym, ◌∙◌, ap}
use mathlib.Core.Bool.{Bool, true, false}
use mathlib.Core.List.{List, [], ◌∷◌}
use Prim.Native.Nat.{ℕ, ◌-◌, ◌≤◌, ◌<◌}
use native.Mathlib.Omega.{arith}
use lib.Dec.{ltb}
use lib.Ieee.{le, lt, eq, neg, of_bits}
use lib.ListN.{length}
use borrow.Author.Tests.{ltb-false, lt-ltb, le-ltb, le-leb}
use Rattle.base.specs.Numbers.{no_room, beyond_reach}
use Rattle.base.specs.Said.{Said, gives, refuses, pick}
use Rattle.base.proofs.Said.{no_value, no_refusal, same_value}
use Rattle.sorting.specs.Entries.{Entry}
use Rattle.sorted.specs.Lent.{ListTable}
use Rattle.scl.specs.Items.{is_usable, Held, AllHeld}
use Rattle.scl.specs.Table.{ItemTable, implicit, are_usable}
use Rattle.scl.specs.declared.Item.{Item}
use Rattle.scl.proofs.Table.{both}
use Rattle.scl_tables.specs.Build.{last_of, count_of, sorted_of, is_beyond, after_list}
use Rattle.scl_tables.specs.Room.{room_of}
use Rattle.scl_tables.proofs.Beyond.{scale_looks}
use Rattle.scl_tables.proofs.Theorems.{list_given}
use Rattle.scl_build.specs.Builder.{Built, beside, state, builder_of, after_new, after_all, accepted_of, built, counted}
use Rattle.scl_build.specs.declared.SclBuilder.{SclBuilder}
use Rattle.scl_build.proofs.Theorems.{run_built}
use Rattle.generate.specs.Generated.{all_pushed, list_of, made_of, counted_of, items_left, list_left}

-- ---- the implicit item
pub implicit_usable : is_usable implicit ≡ true
unfolding le lt eq neg of_bits
implicit_usable = refl

pub implicit_held : Held implicit
implicit_held = tt

-- ---- a new builder, or one with no room
module _ (t : ItemTable) (l : ListTable) where
  pub begun : {b : SclBuilder} → gives b ≡ builder_of t l → b ≡ state (room_of t l) 0
  begun {b} e = go (ltb 0 (room_of t l)) e
    where
      go : (x : Bool) → gives b ≡ pick x (gives (state (room_of t l) 0)) (refuses no_room 0) → b ≡ state (room_of t l) 0
      go true q = same_value b (state (room_of t l) 0) q
      go false q = no_refusal q

  pub begun_none : {n d : ℕ} → refuses n d ≡ builder_of t l → state 0 0 ≡ state (room_of t l) 0
  begun_none {n} {d} e = go (ltb 0 (room_of t l)) refl e
    where
      go : (x : Bool) → ltb 0 (room_of t l) ≡ x → refuses n d ≡ pick x (gives (state (room_of t l) 0)) (refuses no_room 0) → state 0 0 ≡ state (room_of t l) 0
      go true h q = no_value q
      go false h q = let z : 0 ≡ room_of t l = omega (arith, ltb-false 0 (room_of t l) h) in ap (λ (x : ℕ). state x 0) z

-- ---- usable items with room are all accepted
pub accepted_all : (places : ℕ) (is : List Item) → length is ≤ places → are_usable is ≡ true → accepted_of places is ≡ is
unfolding accepted_of are_usable
accepted_all places [] h u = refl
accepted_all places (i ∷ is) h u =
    let b = both (is_usable i) (are_usable is) u in
    let m : length is ≤ places - 1 = omega arith in
    rw (b.0, lt-ltb 0 places (omega arith), accepted_all (places - 1) is m b.1)

-- ---- the refusals
module _ (t : ItemTable) (l : ListTable) (n : ℕ) where
  pub made_no_room : (s : Said (List Item)) → room_of t l ≤ n → made_of t l n s ≡ refuses no_room 0
  unfolding made_of
  made_no_room s h = rw (le-ltb n (room_of t l) h)

  pub made_refused : {a d : ℕ} → n < room_of t l → made_of t l n (refuses a d) ≡ refuses a d
  unfolding made_of
  made_refused h = rw (lt-ltb n (room_of t l) h)

-- ---- the run
module _ (t : ItemTable) (l : ListTable) (is : List Item) (few : length is ≤ 65535) (room : length is < room_of t l) (usable : are_usable is ≡ true) (held : AllHeld is) where
  pub all_usable : are_usable (implicit ∷ is) ≡ true
  unfolding are_usable
  all_usable = rw implicit_usable usable

  pub accepted : accepted_of (room_of t l - 1) is ≡ is
  accepted = accepted_all (room_of t l - 1) is (omega arith) usable

  pub list_looks : list_of t l is ≡ pick (is_beyond (length is) (last_of (implicit ∷ is))) (refuses beyond_reach 0) (sorted_of (implicit ∷ is))
  list_looks =
      let n : count_of (implicit ∷ is) ≡ length is = omega arith in
      run_built t l (omega arith) is ∙ rw (accepted, le-leb (count_of (implicit ∷ is)) 65535 (omega arith)) (scale_looks (implicit ∷ is))
      ∙ ap (λ (k : ℕ). pick (is_beyond k (last_of (implicit ∷ is))) (refuses beyond_reach 0) (sorted_of (implicit ∷ is))) n

  pub some_list : (es : List Entry) × (sorted_of (implicit ∷ is) ≡ gives es)
  some_list = list_given (implicit ∷ is) (omega arith) (implicit_held, held) all_usable

  pub made_beyond : is_beyond (length is) (last_of (implicit ∷ is)) ≡ true → made_of t l (length is) (gives is) ≡ refuses beyond_reach 0
  unfolding made_of
  made_beyond b = rw (lt-ltb (length is) (room_of t l) room, list_looks, b)

  pub made_given : is_beyond (length is) (last_of (implicit ∷ is)) ≡ false → made_of t l (length is) (gives is) ≡ gives is
  unfolding made_of
  made_given b = rw (lt-ltb (length is) (room_of t l) room, list_looks, b, some_list.1)

-- ---- the answer and the tables go together
module _ (t : ItemTable) (l : ListTable) {made : Said (List Item)} where
  pub all_refused : {n d : ℕ} → made ≡ refuses n d → (refuses n d ≡ counted_of made) × (t ≡ items_left made t l) × (l ≡ list_left made t l)
  all_refused e = (ap counted_of (sym e), ap (λ (s : Said (List Item)). items_left s t l) (sym e), ap (λ (s : Said (List Item)). list_left s t l) (sym e))

  pub all_given : {is : List Item} → made ≡ gives is → {t' : ItemTable} {l' : ListTable} → t' ≡ (all_pushed t l is).table → l' ≡ after_list (list_of t l is) l
      → (gives (length is) ≡ counted_of made) × (t' ≡ items_left made t l) × (l' ≡ list_left made t l)
  all_given e p q = (ap counted_of (sym e), p ∙ ap (λ (s : Said (List Item)). items_left s t l) (sym e), q ∙ ap (λ (s : Said (List Item)). list_left s t l) (sym e))

-- ---- a new builder, the pushes, the build: the run
module _ (t : ItemTable) (l : ListTable) (is : List Item) {b s : SclBuilder} {t₁ t₂ : ItemTable} (new : s ≡ state (room_of t l) 0) (first : t₁ ≡ after_new t l) (pushes : beside b t₂ ≡ after_all (beside s t₁) is) where
  the_run : beside b t₂ ≡ all_pushed t l is
  the_run = pushes ∙ rw (new, first)

  pub run_left : {x : Said ℕ} {l' : ListTable} → (x ≡ counted b (built b t₂ l)) × (l' ≡ after_list (built b t₂ l) l)
      → (x ≡ counted (all_pushed t l is).builder (list_of t l is)) × (t₂ ≡ (all_pushed t l is).table) × (l' ≡ after_list (list_of t l is) l)
  run_left e = (
    e.0 ∙ ap (λ (z : Built). counted z.builder (built z.builder z.table l)) the_run,
    ap (λ (z : Built). z.table) the_run,
    e.1 ∙ ap (λ (z : Built). after_list (built z.builder z.table l) l) the_run,
  )
