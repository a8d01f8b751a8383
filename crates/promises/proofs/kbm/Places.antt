-- THE PLACES OF A MAP, BY THE TOKENS WRITTEN FOR THEM: which are unmapped and which have a degree is what the text's lines after the seven
-- required ones say. Document 01, "Mapping". Assumes nothing.
use Rattle.std.specs.Prelude.{Some, None, Option}
use mathlib.Core.Path.{◌≡◌, refl, ap}
use mathlib.Core.Bool.{true}
use mathlib.Core.List.{List, [], ◌∷◌, ◌++◌}
use mathlib.Core.Logic.{◌⊎◌, inl, inr}
use Prim.Native.Nat.{ℕ, zero, suc, ◌^◌, ◌≤◌, ◌<◌}
use native.Mathlib.Omega.{arith}
use lib.Dec.{lit<}
use lib.IntN.{ℤ}
use lib.ListN.{length, get_or, get_or-eq_default}
use Rattle.base.proofs.Integers.{split}
use Rattle.integers.specs.IntegerText.{IntText}
use Rattle.integers.proofs.Theorems.{one_value}
use Rattle.kbm_read.specs.Language.{EntryText, Entries, blanks}
use Rattle.promises.specs.kbm.KeysOfText.{NotMapped, MappedTo}
use Rattle.promises.proofs.kbm.Values.{letter_integer}

-- ---- entries that are added
blank_at : (n r : ℕ) → get_or (blanks n) r None ≡ None
unfolding blanks
blank_at zero r = refl
blank_at (suc n) zero = refl
blank_at (suc n) (suc r) = blank_at n r

-- an added entry is as none
pub added_at : (es : List (Option ℤ)) (n r : ℕ) → get_or (es ++ blanks n) r None ≡ get_or es r None
added_at [] n r = blank_at n r
added_at (e ∷ es) n zero = refl
added_at (e ∷ es) n (suc r) = added_at es n r

-- ---- the token of a place, and its entry
same_length : (ts : List (List ℕ)) (es : List (Option ℤ)) → Entries ts es → length ts ≡ length es
same_length [] [] x = refl
same_length [] (e ∷ es) x = absurd x
same_length (t ∷ ts) [] x = absurd x
same_length (t ∷ ts) (e ∷ es) x = ap suc (same_length ts es x.1)

text_at : (ts : List (List ℕ)) (es : List (Option ℤ)) (r : ℕ) → Entries ts es → r < length ts →
    EntryText (get_or ts r []) (get_or es r None)
text_at [] es r x h = absurd (omega arith)
text_at (t ∷ ts) [] r x h = absurd x
text_at (t ∷ ts) (e ∷ es) zero x h = x.0
text_at (t ∷ ts) (e ∷ es) (suc r) x h = text_at ts es r x.1 (omega arith)

not_both : {A : Type 0} {z : ℤ} {e : (Option ℤ)} → e ≡ Some z → e ≡ None → A
not_both p q = let n : ◌≡◌ {A = ℕ} 0 1 = cc in absurd (omega arith)

cross_text : (t : List ℕ) (e : (Option ℤ)) → EntryText t e → e ≡ None → (t ≡ 120 ∷ []) ⊎ (t ≡ 88 ∷ [])
cross_text t e (EntryText.small p) q = inl p
cross_text t e (EntryText.large p) q = inr p
cross_text t e (EntryText.degree z i) q = not_both refl q

text_cross : (t : List ℕ) (e : (Option ℤ)) → EntryText t e → (t ≡ 120 ∷ []) ⊎ (t ≡ 88 ∷ []) → e ≡ None
text_cross t e (EntryText.small p) o = refl
text_cross t e (EntryText.large p) o = refl
text_cross t e (EntryText.degree z i) (inl p) = absurd (letter_integer (omega arith) p i)
text_cross t e (EntryText.degree z i) (inr p) = absurd (letter_integer (omega arith) p i)

number_text : (t : List ℕ) (e : (Option ℤ)) (z : ℤ) → EntryText t e → e ≡ Some z → IntText true (2 ^ 15) t z
number_text t e z (EntryText.small p) q = not_both q refl
number_text t e z (EntryText.large p) q = not_both q refl
number_text t e z (EntryText.degree y i) q = let w : y ≡ z = cc in rw w at i

text_number : (t : List ℕ) (e : (Option ℤ)) (z : ℤ) → EntryText t e → IntText true (2 ^ 15) t z → e ≡ Some z
text_number t e z (EntryText.small p) i = absurd (letter_integer (omega arith) p i)
text_number t e z (EntryText.large p) i = absurd (letter_integer (omega arith) p i)
text_number t e z (EntryText.degree y j) i = ap Some (one_value true (2 ^ 15) (lit< tt) t y z j i)

module _ (ts : List (List ℕ)) (given : List (Option ℤ)) (x : Entries ts given) (r : ℕ) where
  past : length ts ≤ r → get_or given r None ≡ None
  past h = get_or-eq_default given None (omega (arith, same_length ts given x))

  pub no_entry : get_or given r None ≡ None → NotMapped ts r
  no_entry e = elim (split r (length ts)) [
    | inl h ↦ inl (cross_text (get_or ts r []) (get_or given r None) (text_at ts given r x h) e)
    | inr h ↦ inr h
  ]

  pub entry_no : NotMapped ts r → get_or given r None ≡ None
  entry_no (inr h) = past h
  entry_no (inl o) = elim (split r (length ts)) [
    | inl h ↦ text_cross (get_or ts r []) (get_or given r None) (text_at ts given r x h) o
    | inr h ↦ past h
  ]

  pub an_entry : (z : ℤ) → get_or given r None ≡ Some z → MappedTo ts r z
  an_entry z e = elim (split r (length ts)) [
    | inl h ↦ (h, number_text (get_or ts r []) (get_or given r None) z (text_at ts given r x h) e)
    | inr h ↦ not_both e (past h)
  ]

  pub entry_an : (z : ℤ) → MappedTo ts r z → get_or given r None ≡ Some z
  entry_an z (h, i) = text_number (get_or ts r []) (get_or given r None) z (text_at ts given r x h) i
