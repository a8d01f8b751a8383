-- The words `inf`, `infinity` and `nan` in any case: what `spelled` finds is what `Spells` says. Assumes nothing.
use mathlib.Core.Path.{◌≡◌, refl}
use mathlib.Core.List.{List, [], ◌∷◌}
use mathlib.Core.Bool.{Bool, true, false}
use mathlib.Core.Logic.{◌⊎◌, inl, inr}
use Prim.Native.Nat.{ℕ, ◌+◌, ◌≤◌}
use native.Mathlib.Omega.{arith}
use lib.ListN.{drop}
use lib.Dec.{ltb, eqb, lit≤}
use borrow.Author.Tests.{lt-ltb, le-ltb, eq-eqb, ne_eqb, eqb-true}
use Rattle.base.specs.Said.{pick}
use Rattle.numerals.specs.FloatText.{Spells, Word}
use Rattle.numerals.specs.Scan.{lowered, spelled, word_at, inf_text, infinity_text, nan_text}
use Rattle.numerals.proofs.Places.{NoSign}

-- letters in lower case
abbrev Lower : List ℕ → Type 0
Lower [] = Unit {0}
Lower (c ∷ w) = ((97 ≤ c) × (c ≤ 122)) × Lower w

lowered_from : (b c : ℕ) → lowered b ≡ c → (b ≡ c) ⊎ (b + 32 ≡ c)
lowered_from b c e = go (ltb b 65) (ltb 90 b) e
  where
    go : (p q : Bool) → pick p b (pick q b (b + 32)) ≡ c → (b ≡ c) ⊎ (b + 32 ≡ c)
    go true q h = inl h
    go false true h = inl h
    go false false h = inr h

lowered_to : (b c : ℕ) → (97 ≤ c) × (c ≤ 122) → (b ≡ c) ⊎ (b + 32 ≡ c) → lowered b ≡ c
lowered_to b c h (inl e) = rw (le-ltb b 65 (omega arith), lt-ltb 90 b (omega arith)) e
lowered_to b c h (inr e) = rw (le-ltb b 65 (omega arith), le-ltb 90 b (omega arith)) e

spelled_sound : (s w : List ℕ) → spelled s w ≡ true → Spells w s
unfolding spelled
spelled_sound [] [] e = tt
spelled_sound [] (c ∷ w) e = let z : ◌≡◌ {A = ℕ} 0 1 = cc in absurd (omega arith)
spelled_sound (b ∷ s) [] e = let z : ◌≡◌ {A = ℕ} 0 1 = cc in absurd (omega arith)
spelled_sound (b ∷ s) (c ∷ w) e = go (eqb (lowered b) c) refl e (spelled_sound s w)
  where
    go : (t : Bool) → eqb (lowered b) c ≡ t → pick t (spelled s w) false ≡ true → (spelled s w ≡ true → Spells w s) → Spells (c ∷ w) (b ∷ s)
    go true p q ih = (lowered_from b c (eqb-true (lowered b) c p), ih q)
    go false p q ih = let z : ◌≡◌ {A = ℕ} 0 1 = cc in absurd (omega arith)

spelled_complete : (s w : List ℕ) → Lower w → Spells w s → spelled s w ≡ true
unfolding spelled
spelled_complete [] [] l h = refl
spelled_complete [] (c ∷ w) l h = absurd h
spelled_complete (b ∷ s) [] l h = absurd h
spelled_complete (b ∷ s) (c ∷ w) l h = rw (eq-eqb (lowered b) c (lowered_to b c l.0 h.0)) (spelled_complete s w l.1 h.1)

-- the three words
inf_lower : Lower inf_text
inf_lower = ((lit≤ tt, lit≤ tt), ((lit≤ tt, lit≤ tt), ((lit≤ tt, lit≤ tt), tt)))

infinity_lower : Lower infinity_text
infinity_lower = ((lit≤ tt, lit≤ tt), ((lit≤ tt, lit≤ tt), ((lit≤ tt, lit≤ tt), ((lit≤ tt, lit≤ tt), ((lit≤ tt, lit≤ tt), ((lit≤ tt, lit≤ tt), ((lit≤ tt, lit≤ tt), ((lit≤ tt, lit≤ tt), tt))))))))

nan_lower : Lower nan_text
nan_lower = ((lit≤ tt, lit≤ tt), ((lit≤ tt, lit≤ tt), ((lit≤ tt, lit≤ tt), tt)))

pub word_sound : (s : List ℕ) (at : ℕ) {t : List ℕ} → drop at s ≡ t → word_at s at ≡ true → Word t
word_sound s at {t} f e = go (spelled (drop at s) inf_text) refl (spelled (drop at s) infinity_text) refl e
  where
    go : (p : Bool) → spelled (drop at s) inf_text ≡ p → (q : Bool) → spelled (drop at s) infinity_text ≡ q → pick p true (pick q true (spelled (drop at s) nan_text)) ≡ true → Word t
    go true a q b h = Word.inf (spelled_sound t inf_text (rw f at a))
    go false a true b h = Word.infinity (spelled_sound t infinity_text (rw f at b))
    go false a false b h = Word.nan (spelled_sound t nan_text (rw f at h))

either : (p q : Bool) → pick p true (pick q true true) ≡ true
either true q = refl
either false true = refl
either false false = refl

second : (p : Bool) → pick p true true ≡ true
second true = refl
second false = refl

pub word_complete : (s : List ℕ) (at : ℕ) {t : List ℕ} → drop at s ≡ t → Word t → word_at s at ≡ true
word_complete s at {t} f (Word.inf h) = rw (f, spelled_complete t inf_text inf_lower h)
word_complete s at {t} f (Word.infinity h) = rw (f, spelled_complete t infinity_text infinity_lower h) (second (spelled t inf_text))
word_complete s at {t} f (Word.nan h) = rw (f, spelled_complete t nan_text nan_lower h) (either (spelled t inf_text) (spelled t infinity_text))

-- a text that starts with a digit or a dot
abbrev pub Opens : List ℕ → Type 0
Opens [] = ⊥
Opens (b ∷ s) = (46 ≤ b) × (b ≤ 57)

pub opens_sign : (s : List ℕ) → Opens s → NoSign s
opens_sign [] h = tt
opens_sign (b ∷ s) h = (λ e. omega (arith, h.0), λ e. omega (arith, h.0))

not_spelled : (b c : ℕ) (s w : List ℕ) → b ≤ 57 → 97 ≤ c → spelled (b ∷ s) (c ∷ w) ≡ false
unfolding spelled
not_spelled b c s w h l = let z : lowered b ≡ b = rw (lt-ltb b 65 (omega arith)) in rw (z, ne_eqb b c (λ e. omega arith))

pub opens_word : (s : List ℕ) (at : ℕ) (t : List ℕ) → drop at s ≡ t → Opens t → word_at s at ≡ false
opens_word s at [] f h = absurd h
opens_word s at (b ∷ t) f h =
    rw (f, not_spelled b 105 t (110 ∷ 102 ∷ []) h.1 (lit≤ tt), not_spelled b 105 t (110 ∷ 102 ∷ 105 ∷ 110 ∷ 105 ∷ 116 ∷ 121 ∷ []) h.1 (lit≤ tt))
    (not_spelled b 110 t (97 ∷ 110 ∷ []) h.1 (lit≤ tt))

letter_sign : (c : ℕ) (w s : List ℕ) → 97 ≤ c → Spells (c ∷ w) s → NoSign s
letter_sign c w [] l h = tt
letter_sign c w (b ∷ s) l h = go h.0
  where
    go : (b ≡ c) ⊎ (b + 32 ≡ c) → (b ≡ 43 → ⊥) × (b ≡ 45 → ⊥)
    go (inl e) = (λ f. omega arith, λ f. omega arith)
    go (inr e) = (λ f. omega arith, λ f. omega arith)

pub word_sign : {s : List ℕ} → Word s → NoSign s
word_sign {s} (Word.inf h) = letter_sign 105 (110 ∷ 102 ∷ []) s (lit≤ tt) h
word_sign {s} (Word.infinity h) = letter_sign 105 (110 ∷ 102 ∷ 105 ∷ 110 ∷ 105 ∷ 116 ∷ 121 ∷ []) s (lit≤ tt) h
word_sign {s} (Word.nan h) = letter_sign 110 (97 ∷ 110 ∷ []) s (lit≤ tt) h
