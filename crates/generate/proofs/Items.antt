-- Items made one by one: when there are all of them, and what refuses them. Assumes nothing.
use mathlib.Core.Path.{◌≡◌, refl, sym, ◌∙◌, ap}
use mathlib.Core.Logic.{◌⊎◌, inl, inr}
use mathlib.Core.Bool.{true}
use mathlib.Core.List.{List, [], ◌∷◌}
use Prim.Native.Nat.{ℕ, zero, suc, ◌+◌, ◌-◌, ◌≤◌, ◌<◌}
use native.Mathlib.Omega.{arith}
use lib.ListN.{length, get_or}
use Rattle.base.specs.Said.{Said, gives, refuses, and_then}
use Rattle.base.proofs.Said.{same_value}
use Rattle.scl.specs.Items.{is_usable, Held, AllHeld}
use Rattle.scl.specs.Table.{no_item, implicit, are_usable}
use Rattle.scl.specs.declared.Item.{Item}
use Rattle.scl_tables.specs.Build.{last_of}
use Rattle.generate.specs.Generated.{items_from}

-- an item is said, which can be used and which the machine holds
pub record Fine (s : Said Item) : Type 0 where
  pub item : Item
  pub is : s ≡ gives item
  pub usable : is_usable item ≡ true
  pub held : Held item

-- n items are said
pub record All (f : ℕ → Said Item) (k n : ℕ) : Type 0 where
  pub items : List Item
  pub are : items_from f k n ≡ gives items
  pub size : length items ≡ n
  pub usable : are_usable items ≡ true
  pub held : AllHeld items
  pub last : (i : Item) → 0 < n → f (k + n - 1) ≡ gives i → get_or items (n - 1) no_item ≡ i

module _ (f : ℕ → Said Item) where
  pub all_items : (n k : ℕ) → ((j : ℕ) → k ≤ j → j < k + n → Fine (f j)) → All f k n
  unfolding items_from are_usable
  all_items zero k h = record { items = []; are = refl; size = refl; usable = refl; held = tt; last = λ i p e. absurd (omega arith) }
  all_items (suc n) k h =
      let x = h k (omega arith) (omega arith) in
      let m = all_items n (suc k) (λ j a b. h j (omega arith) (omega arith)) in
      record {
        items = x.item ∷ m.items;
        are = rw (x.is, m.are);
        size = ap suc m.size;
        usable = rw x.usable m.usable;
        held = (x.held, m.held);
        last = λ i p e. go n x m i e;
      }
    where
      go : (n : ℕ) (x : Fine (f k)) (m : All f (suc k) n) (i : Item) → f (k + suc n - 1) ≡ gives i → get_or (x.item ∷ m.items) (suc n - 1) no_item ≡ i
      go zero x m i e =
          let z : k + 1 - 1 ≡ k = omega arith in
          let y : suc zero - 1 ≡ 0 = omega arith in
          ap (λ (q : ℕ). get_or (x.item ∷ m.items) q no_item) y ∙ same_value x.item i (sym x.is ∙ ap f (sym z) ∙ e)
      go (suc n') x m i e =
          let z : k + suc (suc n') - 1 ≡ suc k + suc n' - 1 = omega arith in
          let y : suc (suc n') - 1 ≡ suc (suc n' - 1) = omega arith in
          ap (λ (q : ℕ). get_or (x.item ∷ m.items) q no_item) y ∙ m.last i (omega arith) (ap f (sym z) ∙ e)

  -- where each is fine or refused alike, and the last one is refused, that is the answer
  pub none_of : {a d : ℕ} (n k : ℕ) → 0 < n → f (k + n - 1) ≡ refuses a d → ((j : ℕ) → k ≤ j → j < k + n → Fine (f j) ⊎ (f j ≡ refuses a d)) → items_from f k n ≡ refuses a d
  unfolding items_from
  none_of zero k p e h = absurd (omega arith)
  none_of {a} {d} (suc n) k p e h = go n (h k (omega arith) (omega arith)) e (λ q j. none_of n (suc k) q j (λ j a b. h j (omega arith) (omega arith)))
    where
      go : (n : ℕ) → Fine (f k) ⊎ (f k ≡ refuses a d) → f (k + suc n - 1) ≡ refuses a d → (0 < n → f (suc k + n - 1) ≡ refuses a d → items_from f (suc k) n ≡ refuses a d)
          → and_then (f k) (λ i. and_then (items_from f (suc k) n) (λ is. gives (i ∷ is))) ≡ refuses a d
      go n (inr r) e g = rw r
      go zero (inl x) e g = let z : k + 1 - 1 ≡ k = omega arith in rw (ap f (sym z) ∙ e)
      go (suc n') (inl x) e g =
          let z : k + suc (suc n') - 1 ≡ suc k + suc n' - 1 = omega arith in
          rw (x.is, g (omega arith) (ap f (sym z) ∙ e))

-- the last item of some is the last one of the scale
pub last_of_law : (is : List Item) → 0 < length is → last_of (implicit ∷ is) ≡ get_or is (length is - 1) no_item
last_of_law [] p = absurd (omega arith)
last_of_law (i ∷ is) p =
    let y : suc (length (i ∷ is)) - 1 ≡ suc (length (i ∷ is) - 1) = omega arith in
    ap (λ (q : ℕ). get_or (implicit ∷ i ∷ is) q no_item) y
