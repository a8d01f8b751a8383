-- The end of a text, and the entries that its lines give, in the language's terms. Assumes nothing.
use Rattle.std.specs.Prelude.{ℤ}
use Rattle.std.specs.Prelude.{Option}
use mathlib.Core.Path.{◌≡◌, refl, sym, ◌∙◌, ap}
use mathlib.Core.Bool.{Bool, true, false}
use mathlib.Core.List.{List, [], ◌∷◌}
use mathlib.Core.Logic.{inl, inr}
use Prim.Native.Nat.{ℕ, zero, suc, ◌+◌, ◌-◌, ◌^◌, ◌≤◌, ◌<◌}
use native.Mathlib.Omega.{arith}
use lib.Dec.{ltb}
use lib.ListN.{length, length-append}
use borrow.Author.Tests.{lt-ltb, le-ltb, ltb-true, ltb-false}
use Rattle.base.specs.Numbers.{no_room, too_large, inconsistent_count}
use Rattle.base.specs.Said.{gives, refuses, pick}
use Rattle.base.proofs.Said.{same_value, no_value, no_refusal, same_refuses}
use Rattle.kbm.specs.declared.Kbm.{Kbm}
use Rattle.integers.proofs.AtLine.{int_below}
use Rattle.listing.proofs.Given.{given_entries}
use Rattle.text.specs.Reading.{Meaning}
use Rattle.kbm_read.specs.Language.{Values, GiveAll, Begins, required, unseen, mapping, size_of, blanks, added, WrongEnd}
use Rattle.kbm_read.specs.Reader.{entry_in, listed, given_from, mapping_of}
use Rattle.kbm_read.specs.declared.line.Head.{Head}
use Rattle.kbm_read.proofs.EntryTexts.{text_entry}
use Rattle.kbm_read.proofs.Stands.{finish_on}

-- how many entries there are with the added ones
pub length_blanks : (n : ℕ) → length (blanks n) ≡ n
unfolding blanks
length_blanks zero = refl
length_blanks (suc n) = ap suc (length_blanks n)

pub length_added : (n : ℕ) (es : List (Option ℤ)) → length (added n es) ≡ length es + (n - length es)
length_added n es = length-append es (blanks (n - length es)) ∙ ap (λ x. length es + x) (length_blanks (n - length es))

-- a size is below 65,536
size_below : (first : List (List ℕ)) (vs : Values required) → GiveAll unseen required first vs → size_of vs < 65536
size_below [] vs g = absurd g
size_below (t ∷ ts) vs g = int_below (2 ^ 16) t vs.0 g.0

pub small_size : {ms : List Meaning} {vs : Values required} {es : List (Option ℤ)} → Begins ms required vs es → size_of vs < 65536
small_size {vs = vs} b = size_below b.first vs b.values

-- THE ENTRIES that the lines give are those of the language
pub given_is : {ms : List Meaning} {vs : Values required} {es : List (Option ℤ)} → Begins ms required vs es → given_from 7 ms ≡ es
given_is b = given_entries mapping (λ m t. listed (entry_in t)) (λ m t e x. ap listed (text_entry t e x)) b

-- THE END, where nothing is required any more
pub record Accepted (room : ℕ) (h : Head) (n : ℕ) (x : Kbm) : Type 0 where
  pub room_for : h.size ≤ room
  pub not_more : n ≤ h.size
  pub is : mapping_of h ≡ x

module _ (room : ℕ) (h : Head) (es : List (Option ℤ)) where
  pub end_gives : {x : Kbm} → finish_on room h es ≡ gives x → Accepted room h (length es) x
  end_gives {x} e = by_room (ltb room h.size) refl e
    where
      by_count : h.size ≤ room → (b : Bool) → ltb h.size (length es) ≡ b → pick b (refuses inconsistent_count 0) (gives (mapping_of h)) ≡ gives x → Accepted room h (length es) x
      by_count r true p q = no_value q
      by_count r false p q = record { room_for = r; not_more = ltb-false h.size (length es) p; is = same_value (mapping_of h) x q }

      by_large : h.size ≤ room → (b : Bool) → pick b (refuses too_large 0) (pick (ltb h.size (length es)) (refuses inconsistent_count 0) (gives (mapping_of h))) ≡ gives x → Accepted room h (length es) x
      by_large r true q = no_value q
      by_large r false q = by_count r (ltb h.size (length es)) refl q

      by_room : (b : Bool) → ltb room h.size ≡ b →
          pick b (refuses no_room 0) (pick (ltb 65535 (length es)) (refuses too_large 0) (pick (ltb h.size (length es)) (refuses inconsistent_count 0) (gives (mapping_of h)))) ≡ gives x → Accepted room h (length es) x
      by_room true p q = no_value q
      by_room false p q = by_large (ltb-false room h.size p) (ltb 65535 (length es)) q

  pub gives_end : h.size ≤ room → length es ≤ 65535 → length es ≤ h.size → finish_on room h es ≡ gives (mapping_of h)
  gives_end a b c = rw (le-ltb room h.size a, le-ltb 65535 (length es) b, le-ltb h.size (length es) c)

  module _ (places : length es ≤ room) (small : h.size < 65536) where
    pub end_wrong : {c d : ℕ} → finish_on room h es ≡ refuses c d → (d ≡ 0) × WrongEnd room h.size es c
    end_wrong {c} {d} e = by_room (ltb room h.size) refl e
      where
        by_count : length es ≤ 65535 → (b : Bool) → ltb h.size (length es) ≡ b → pick b (refuses inconsistent_count 0) (gives (mapping_of h)) ≡ refuses c d → (d ≡ 0) × WrongEnd room h.size es c
        by_count l true p q =
            let r = same_refuses q in
            let g = ltb-true h.size (length es) p in
            (sym r.1, inr (inr (sym r.0, omega (arith, length_added h.size es), omega arith)))
        by_count l false p q = no_refusal q

        by_large : (b : Bool) → ltb 65535 (length es) ≡ b → pick b (refuses too_large 0) (pick (ltb h.size (length es)) (refuses inconsistent_count 0) (gives (mapping_of h))) ≡ refuses c d →
            (d ≡ 0) × WrongEnd room h.size es c
        by_large true p q = let r = same_refuses q in let g = ltb-true 65535 (length es) p in (sym r.1, inr (inl (sym r.0, omega (arith, length_added h.size es))))
        by_large false p q = by_count (ltb-false 65535 (length es) p) (ltb h.size (length es)) refl q

        by_room : (b : Bool) → ltb room h.size ≡ b →
            pick b (refuses no_room 0) (pick (ltb 65535 (length es)) (refuses too_large 0) (pick (ltb h.size (length es)) (refuses inconsistent_count 0) (gives (mapping_of h)))) ≡ refuses c d →
            (d ≡ 0) × WrongEnd room h.size es c
        by_room true p q = let r = same_refuses q in let g = ltb-true room h.size p in (sym r.1, inl (sym r.0, omega arith, omega arith))
        by_room false p q = by_large (ltb 65535 (length es)) refl q

    pub wrong_end : (c : ℕ) → WrongEnd room h.size es c → finish_on room h es ≡ refuses c 0
    wrong_end c (inl w) = rw (w.0, lt-ltb room h.size w.2)
    wrong_end c (inr (inl w)) = rw (w.0, le-ltb room h.size (omega (arith, length_added h.size es, w.1)), lt-ltb 65535 (length es) (omega (arith, length_added h.size es, w.1)))
    wrong_end c (inr (inr w)) =
        rw (w.0, le-ltb room h.size (omega (arith, w.2)), le-ltb 65535 (length es) (omega (arith, length_added h.size es, w.1)), lt-ltb h.size (length es) (omega (arith, w.2)))
