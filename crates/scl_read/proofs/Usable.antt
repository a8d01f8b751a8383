-- Every item that is read can be used, and is what the machine holds. Assumes nothing.
use Rattle.base.specs.declared.Reason.{Reason}
use Rattle.std.specs.Prelude.{Result, Ok, Err}
use Rattle.base.specs.declared.Refusal.{Refusal}
use mathlib.Core.Path.{◌≡◌, refl, sym, ◌∙◌, ap}
use mathlib.Core.Bool.{Bool, true, false}
use mathlib.Core.List.{List, [], ◌∷◌, ◌++◌}
use Prim.Native.Nat.{ℕ, zero, suc, ◌+◌, ◌^◌}
use lib.Dec.{leb, lit<}
use lib.Ieee.{le, lt, eq, neg, of_bits}
use borrow.Author.Tests.{lt-ltb}
use Rattle.base.specs.Numbers.{no_room}
use Rattle.base.specs.Said.{gives, refuses, pick, and_then, outcome}
use Rattle.base.proofs.Said.{same_value, no_value}
use Rattle.integers.proofs.AtLine.{int_below}
use Rattle.integers.specs.AtLine.{int_at}
use Rattle.integers.specs.Integer.{Int, value, none, read_int}
use Rattle.listing.specs.Reader.{given_after}
use Rattle.scl.specs.Items.{is_usable, Held}
use Rattle.scl.specs.Table.{implicit, are_usable}
use Rattle.scl.specs.declared.Item.{Item}
use Rattle.scl_read.proofs.ItemLanguage.{is_item}
use Rattle.scl_read.specs.ItemText.{ItemText}
use Rattle.scl_read.specs.Tokens.{item_in}
use Rattle.text.specs.Reading.{Meaning, invalid, blank, comment, content}
use Rattle.scl_read.specs.Reader.{item_placed, take_due, take_token, take_meaning, listed, given_from}
use Rattle.scl_read.specs.declared.line.Due.{Due}
use Rattle.scl_read.specs.declared.line.Due.TheVariants as due
use Rattle.scl_read.specs.declared.line.State.{State}

-- an item of the language
pub item_usable : {t : List ℕ} {i : Item} → ItemText t i → is_usable i ≡ true
item_usable (ItemText.cents h v d u) = u
item_usable (ItemText.fraction a b s n d u v p q) = rw (lt-ltb 0 n p, lt-ltb 0 d q)
item_usable (ItemText.whole f g n u p) = rw (lt-ltb 0 n p)

pub item_held : {t : List ℕ} {i : Item} → ItemText t i → Held i
item_held (ItemText.cents h v d u) = tt
item_held (ItemText.fraction a b s n d u v p q) = (int_below (2 ^ 32) a n u, int_below (2 ^ 32) b d v)
item_held (ItemText.whole f g n u p) = (int_below (2 ^ 32) _ n u, lit< tt)

-- the implicit item
pub implicit_usable : is_usable implicit ≡ true
unfolding le lt eq neg of_bits
implicit_usable = refl

pub implicit_held : Held implicit
implicit_held = tt

-- those that a second pass collects
listed_usable : (r : (Result Item Reason)) → ((i : Item) → r ≡ Ok i → is_usable i ≡ true) → (is : List Item) → are_usable is ≡ true → are_usable (listed r ++ is) ≡ true
unfolding are_usable
listed_usable (Ok i) h is a = rw (h i refl) a
listed_usable (Err n) h is a = a

pub given_usable : (n : ℕ) (ms : List Meaning) → are_usable (given_from n ms) ≡ true
unfolding given_after are_usable
given_usable n [] = refl
given_usable n (invalid ∷ ms) = given_usable n ms
given_usable n (blank ∷ ms) = given_usable n ms
given_usable n (comment ∷ ms) = given_usable n ms
given_usable zero (content m t ∷ ms) = listed_usable (item_in t) (λ i e. item_usable (is_item t i e)) (given_from 0 ms) (given_usable 0 ms)
given_usable (suc n) (content m t ∷ ms) = given_usable n ms

-- THE LAST ITEM so far can be used, whatever line is taken
abbrev Last : State → Type 0
Last s = is_usable s.last ≡ true

module _ (places k : ℕ) (s s' : State) (u : Last s) where
  count_last : (i : Int) → and_then (int_at 3 k i) (λ z. gives (record { due = due.Items; declared = lib.IntN.nat_abs z; count = s.count; last = s.last })) ≡ gives s' → Last s'
  count_last (value z) e = rw (sym (ap (λ x. x.last) (same_value _ s' e))) u
  count_last none e = no_value e

  item_last : (r : (Result Item Reason)) → ((i : Item) → r ≡ Ok i → is_usable i ≡ true) → item_placed places k s r ≡ gives s' → Last s'
  item_last (Ok i) h e = go (leb places s.count) e
    where
      go : (b : Bool) → pick b (refuses no_room k) (gives (record { due = due.Items; declared = s.declared; count = s.count + 1; last = i })) ≡ gives s' → Last s'
      go true q = no_value q
      go false q = rw (sym (ap (λ x. x.last) (same_value (record { due = due.Items; declared = s.declared; count = s.count + 1; last = i }) s' q))) (h i refl)
  item_last (Err n) h e = no_value e

  due_last : (t : List ℕ) (d : Due) → take_due places k t s d ≡ gives s' → Last s'
  due_last t due.Description e = rw (sym (ap (λ x. x.last) (same_value (record { due = due.Count; declared = s.declared; count = s.count; last = s.last }) s' e))) u
  due_last t due.Count e = count_last (read_int false (2 ^ 16) t) e
  due_last t due.Items e = item_last (item_in t) (λ i q. item_usable (is_item t i q)) e

  pub meaning_last : (m : Meaning) → take_meaning places k m s ≡ gives s' → Last s'
  unfolding take_token
  meaning_last invalid e = no_value e
  meaning_last blank e = rw (sym (same_value s s' e)) u
  meaning_last comment e = rw (sym (same_value s s' e)) u
  meaning_last (content m t) e = due_last t s.due e

-- r is what a call answered, and a match made a state of it
pub step_last : (places k : ℕ) (m : Meaning) (s : State) {s' : State} {r : (Result State Refusal)} → outcome r ≡ take_meaning places k m s → r ≡ Ok s' → is_usable s.last ≡ true → is_usable s'.last ≡ true
step_last places k m s {s'} e q u = meaning_last places k s s' u m (sym e ∙ ap outcome q)
