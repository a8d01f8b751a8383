-- What a token is read as, as an entry, is what the language says of it. Assumes nothing.
use Rattle.std.specs.Prelude.{None, Some, Option}
use mathlib.Core.Path.{◌≡◌, refl, sym}
use mathlib.Core.Bool.{Bool, true, false}
use mathlib.Core.List.{List, [], ◌∷◌}
use Prim.Native.Nat.{ℕ, ◌^◌}
use native.Mathlib.Omega.{arith}
use lib.Dec.{eqb, lit<}
use lib.IntN.{ℤ}
use borrow.Author.Tests.{eqb-true, ne_eqb}
use Rattle.base.specs.Said.{pick}
use Rattle.base.proofs.Pick.{true_not_false}
use Rattle.integers.proofs.Language.{sound, complete}
use Rattle.integers.specs.Integer.{Int, value, none, read_int}
use Rattle.integers.specs.IntegerText.{IntText}
use Rattle.kbm_read.specs.Language.{EntryText}
use Rattle.kbm_read.specs.Reader.{is_cross, degree_in, entry_in}

-- ENTRIES: what is read is what the language says
cross_text : (t : List ℕ) → is_cross t ≡ true → EntryText t None
cross_text [] e = absurd (true_not_false (sym e))
cross_text (b ∷ []) e = go (eqb b 120) refl e
  where
    go : (x : Bool) → eqb b 120 ≡ x → pick x true (eqb b 88) ≡ true → EntryText (b ∷ []) None
    go true p q = EntryText.small (rw (eqb-true b 120 p))
    go false p q = EntryText.large (rw (eqb-true b 88 q))
cross_text (b ∷ c ∷ t) e = absurd (true_not_false (sym e))

-- an integer starts with a sign or a digit
int_byte : (z : ℤ) (b : ℕ) (t : List ℕ) → IntText true (2 ^ 15) (b ∷ t) z → (b ≡ 120 → ⊥) × (b ≡ 88 → ⊥)
int_byte z b t (IntText.plain n d h e) = let x = d.each.0 in (omega (arith, x.0, x.1), omega (arith, x.0, x.1))
int_byte z b t (IntText.plus s n p d h e) = let x : b ≡ 43 = cc in omega arith
int_byte z b t (IntText.minus s n g p d h e) = let x : b ≡ 45 = cc in omega arith

int_no_cross : (z : ℤ) (t : List ℕ) → IntText true (2 ^ 15) t z → is_cross t ≡ false
int_no_cross z [] i = refl
int_no_cross z (b ∷ []) i = let x = int_byte z b [] i in rw (ne_eqb b 120 x.0, ne_eqb b 88 x.1)
int_no_cross z (b ∷ c ∷ t) i = refl

pub entry_text : (t : List ℕ) (e : (Option ℤ)) → entry_in t ≡ Some e → EntryText t e
unfolding entry_in
entry_text t e p = go (is_cross t) refl p
  where
    by_int : (i : Int) → read_int true (2 ^ 15) t ≡ i → degree_in i ≡ Some e → EntryText t e
    by_int (value z) q r = let s : Some z ≡ e = cc in rw (← s) (EntryText.degree z (sound true (2 ^ 15) (lit< tt) z t (sym q)))
    by_int none q r = let y : ◌≡◌ {A = ℕ} 0 1 = cc in absurd (omega arith)

    go : (x : Bool) → is_cross t ≡ x → pick x (Some None) (degree_in (read_int true (2 ^ 15) t)) ≡ Some e → EntryText t e
    go true q r = let s : None ≡ e = cc in rw (← s) (cross_text t q)
    go false q r = by_int (read_int true (2 ^ 15) t) refl r

pub text_entry : (t : List ℕ) (e : (Option ℤ)) → EntryText t e → entry_in t ≡ Some e
unfolding entry_in
text_entry t e (EntryText.small p) = rw p
text_entry t e (EntryText.large p) = rw p
text_entry t e (EntryText.degree z i) = rw (int_no_cross z t i, ← complete true (2 ^ 15) (lit< tt) z t i)

pub no_entry : (t : List ℕ) → entry_in t ≡ None → (e : (Option ℤ)) → EntryText t e → ⊥
no_entry t p e x = let q = text_entry t e x in let y : ◌≡◌ {A = ℕ} 0 1 = cc in omega arith

pub entry_none : (t : List ℕ) → ((e : (Option ℤ)) → EntryText t e → ⊥) → entry_in t ≡ None
entry_none t n = go (entry_in t) refl
  where
    go : (r : (Option (Option ℤ))) → entry_in t ≡ r → entry_in t ≡ None
    go (Some e) p = absurd (n e (entry_text t e p))
    go None p = p
