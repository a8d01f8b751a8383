-- The end of a text, and the items that its lines give, in the language's terms. Assumes nothing.
use mathlib.Core.Path.{◌≡◌, refl, sym, ◌∙◌, ap}
use mathlib.Core.Bool.{Bool, true, false}
use mathlib.Core.List.{List, [], ◌∷◌}
use mathlib.Core.Logic.{inl, inr}
use Prim.Native.Nat.{ℕ, ◌≤◌}
use native.Mathlib.Omega.{arith}
use lib.Dec.{ltb, eqb}
use lib.ListN.{length}
use borrow.Author.Tests.{lt-ltb, le-ltb, ltb-true, ltb-false, eq-eqb, ne_eqb, eqb-true, eqb-false}
use Rattle.base.specs.Numbers.{too_large, inconsistent_count, beyond_reach}
use Rattle.base.specs.Said.{gives, refuses, pick}
use Rattle.base.proofs.Said.{same_value, no_value, no_refusal, same_refuses}
use Rattle.listing.proofs.Given.{given_entries}
use Rattle.listing.specs.Listing.{Entries}
use Rattle.listing.specs.Listing as listing
use Rattle.scl.specs.Items.{AllHeld}
use Rattle.scl.specs.Table.{implicit, are_usable}
use Rattle.scl.specs.declared.Item.{Item}
use Rattle.scl_read.proofs.ItemLanguage.{item_is}
use Rattle.scl_read.specs.Tokens.{item_in}
use Rattle.scl_tables.proofs.Beyond.{scale_looks}
use Rattle.scl_tables.proofs.Theorems.{list_given}
use Rattle.scl_tables.specs.Build.{count_of, sorted_of, scale_of, is_beyond}
use Rattle.sorting.specs.Entries.{Entry}
use Rattle.text.specs.Reading.{Meaning}
use Rattle.scl_read.specs.Language.{ContentLine, required, scale, Values, declared_count_of, WrongEnd}
use Rattle.scl_read.specs.Reader.{listed, given_from}
use Rattle.scl_read.proofs.Stands.{Head, last_in, finish_on}
use Rattle.scl_read.proofs.Usable.{item_usable, item_held, implicit_usable, implicit_held}

-- THE ITEMS that the lines give are those of the language
pub given_is : {ms : List Meaning} {vs : Values} {es : List Item} → listing.Begins scale ms required vs es → given_from 2 ms ≡ es
given_is b = given_entries scale (λ m t. listed (item_in t)) (λ m t e x. ap listed (item_is t e x)) b

-- they can be used, and are what the machine holds
entries_usable : (ws : List ContentLine) (es : List Item) → Entries scale ws es → are_usable es ≡ true
unfolding are_usable
entries_usable [] [] x = refl
entries_usable [] (e ∷ es) x = absurd x
entries_usable (w ∷ ws) [] x = absurd x
entries_usable (w ∷ ws) (e ∷ es) x = rw (item_usable x.0) (entries_usable ws es x.1)

entries_held : (ws : List ContentLine) (es : List Item) → Entries scale ws es → AllHeld es
entries_held [] [] x = tt
entries_held [] (e ∷ es) x = absurd x
entries_held (w ∷ ws) [] x = absurd x
entries_held (w ∷ ws) (e ∷ es) x = (item_held x.0, entries_held ws es x.1)

module _ {ms : List Meaning} {vs : Values} {es : List Item} (b : listing.Begins scale ms required vs es) where
  pub lines_usable : are_usable (implicit ∷ es) ≡ true
  unfolding are_usable
  lines_usable = rw implicit_usable (entries_usable b.rest es b.entries)

  pub lines_held : AllHeld (implicit ∷ es)
  lines_held = (implicit_held, entries_held b.rest es b.entries)

  -- so they have a sorted list, where they are within reach
  pub lines_sorted : (list : List Entry) × (sorted_of (implicit ∷ es) ≡ gives list)
  lines_sorted = list_given (implicit ∷ es) (omega arith) lines_held lines_usable

-- one look at the last item decides
looks : (es : List Item) → scale_of (implicit ∷ es) ≡ pick (is_beyond (length es) (last_in es)) (refuses beyond_reach 0) (sorted_of (implicit ∷ es))
looks es =
    let n : count_of (implicit ∷ es) ≡ length es = omega arith in
    scale_looks (implicit ∷ es) ∙ ap (λ k. pick (is_beyond k (last_in es)) (refuses beyond_reach 0) (sorted_of (implicit ∷ es))) n

-- THE END: what is given, and why it is refused
pub record Accepted (h : Head) (es : List Item) (n : ℕ) : Type 0 where
  pub not_large : length es ≤ 65535
  pub consistent : length es ≡ h.declared
  pub within : scale_of (implicit ∷ es) ≡ sorted_of (implicit ∷ es)
  pub is : length es ≡ n

module _ (h : Head) (es : List Item) where
  pub end_gives : {n : ℕ} → finish_on h es ≡ gives n → Accepted h es n
  end_gives {n} e = by_large (ltb 65535 (length es)) refl e
    where
      by_reach : length es ≤ 65535 → length es ≡ h.declared → (b : Bool) → is_beyond (length es) (last_in es) ≡ b → pick b (refuses beyond_reach 0) (gives (length es)) ≡ gives n → Accepted h es n
      by_reach l c true p q = no_value q
      by_reach l c false p q = record { not_large = l; consistent = c; within = looks es ∙ rw p; is = same_value (length es) n q }

      by_count : length es ≤ 65535 → (b : Bool) → eqb (length es) h.declared ≡ b →
          pick b (pick (is_beyond (length es) (last_in es)) (refuses beyond_reach 0) (gives (length es))) (refuses inconsistent_count 0) ≡ gives n → Accepted h es n
      by_count l true p q = by_reach l (eqb-true (length es) h.declared p) (is_beyond (length es) (last_in es)) refl q
      by_count l false p q = no_value q

      by_large : (b : Bool) → ltb 65535 (length es) ≡ b →
          pick b (refuses too_large 0) (pick (eqb (length es) h.declared) (pick (is_beyond (length es) (last_in es)) (refuses beyond_reach 0) (gives (length es))) (refuses inconsistent_count 0)) ≡ gives n → Accepted h es n
      by_large true p q = no_value q
      by_large false p q = by_count (ltb-false 65535 (length es) p) (eqb (length es) h.declared) refl q

  -- where they are within reach, the last item is not beyond
  not_beyond : (list : List Entry) → scale_of (implicit ∷ es) ≡ gives list → is_beyond (length es) (last_in es) ≡ false
  not_beyond list e = go (is_beyond (length es) (last_in es)) (sym (looks es) ∙ e)
    where
      go : (b : Bool) → pick b (refuses beyond_reach 0) (sorted_of (implicit ∷ es)) ≡ gives list → b ≡ false
      go true q = no_value q
      go false q = refl

  -- and the list is theirs
  pub sorted_too : (list : List Entry) → scale_of (implicit ∷ es) ≡ gives list → sorted_of (implicit ∷ es) ≡ gives list
  sorted_too list e = sym (looks es ∙ rw (not_beyond list e)) ∙ e

  pub gives_end : length es ≤ 65535 → length es ≡ h.declared → (list : List Entry) → scale_of (implicit ∷ es) ≡ gives list → finish_on h es ≡ gives (length es)
  gives_end a b list e = rw (le-ltb 65535 (length es) a, eq-eqb (length es) h.declared b, not_beyond list e)

-- the same of lines of the language, which say so much
module _ {ms : List Meaning} {vs : Values} {es : List Item} (b : listing.Begins scale ms required vs es) (h : Head) (d : h.declared ≡ declared_count_of vs) where
  is_beyond_law : scale_of (implicit ∷ es) ≡ refuses beyond_reach 0 → is_beyond (length es) (last_in es) ≡ true
  is_beyond_law e = go (is_beyond (length es) (last_in es)) (sym (looks es) ∙ e)
    where
      go : (x : Bool) → pick x (refuses beyond_reach 0) (sorted_of (implicit ∷ es)) ≡ refuses beyond_reach 0 → x ≡ true
      go true q = refl
      go false q = no_refusal (sym (lines_sorted b).1 ∙ q)

  pub end_wrong : (n k : ℕ) → finish_on h es ≡ refuses n k → (k ≡ 0) × WrongEnd vs es n
  end_wrong n k e = by_large (ltb 65535 (length es)) refl e
    where
      by_reach : length es ≤ 65535 → length es ≡ h.declared → (x : Bool) → is_beyond (length es) (last_in es) ≡ x → pick x (refuses beyond_reach 0) (gives (length es)) ≡ refuses n k → (k ≡ 0) × WrongEnd vs es n
      by_reach l c true p q = let r = same_refuses q in (sym r.1, inr (inr (sym r.0, l, c ∙ d, looks es ∙ rw p)))
      by_reach l c false p q = no_refusal q

      by_count : length es ≤ 65535 → (x : Bool) → eqb (length es) h.declared ≡ x →
          pick x (pick (is_beyond (length es) (last_in es)) (refuses beyond_reach 0) (gives (length es))) (refuses inconsistent_count 0) ≡ refuses n k → (k ≡ 0) × WrongEnd vs es n
      by_count l true p q = by_reach l (eqb-true (length es) h.declared p) (is_beyond (length es) (last_in es)) refl q
      by_count l false p q = let r = same_refuses q in (sym r.1, inr (inl (sym r.0, l, λ c. eqb-false (length es) h.declared p (c ∙ sym d))))

      by_large : (x : Bool) → ltb 65535 (length es) ≡ x →
          pick x (refuses too_large 0) (pick (eqb (length es) h.declared) (pick (is_beyond (length es) (last_in es)) (refuses beyond_reach 0) (gives (length es))) (refuses inconsistent_count 0)) ≡ refuses n k →
          (k ≡ 0) × WrongEnd vs es n
      by_large true p q = let r = same_refuses q in (sym r.1, inl (sym r.0, ltb-true 65535 (length es) p))
      by_large false p q = by_count (ltb-false 65535 (length es) p) (eqb (length es) h.declared) refl q

  pub wrong_end : (n : ℕ) → WrongEnd vs es n → finish_on h es ≡ refuses n 0
  wrong_end n (inl w) = rw (w.0, lt-ltb 65535 (length es) w.1)
  wrong_end n (inr (inl w)) = rw (w.0, le-ltb 65535 (length es) w.1, ne_eqb (length es) h.declared (λ e. w.2 (e ∙ d)))
  wrong_end n (inr (inr w)) = rw (w.0, le-ltb 65535 (length es) w.1, eq-eqb (length es) h.declared (w.2 ∙ sym d), is_beyond_law w.3)
