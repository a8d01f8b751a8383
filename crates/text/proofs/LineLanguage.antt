-- THE THEOREM OF A LINE: what the code finds is what the line says, and nothing else is; for any reading and the way it is
-- carried out, and for document 01's. Assumes nothing.
use mathlib.Core.Path.{◌≡◌, refl, sym, ◌∙◌, ap}
use mathlib.Core.List.{List, [], ◌∷◌}
use mathlib.Core.Bool.{Bool, true, false}
use mathlib.Core.Logic.{◌↔◌}
use Prim.Native.Nat.{ℕ}
use native.Mathlib.Omega.{arith}
use lib.Dec.{eqb}
use lib.ListN.{take}
use borrow.Author.Tests.{eq-eqb, eqb-true}
use Rattle.base.specs.Said.{pick}
use Rattle.base.proofs.Pick.{true_not_false}
use Rattle.utf8.specs.Characters.{Row}
use Rattle.text.specs.Cut.{lines}
use Rattle.text.specs.Reading.{Reading, strict, Comment, Meaning, invalid, comment, content, Line, EachLine, Says}
use Rattle.white.specs.White.{Trimmed}
use Rattle.text.specs.ReadLine.{token_length, Way, strictly, part_meaning, meaning_by, meanings}
use Rattle.white.specs.Trim.{trim_by}
use Rattle.text.proofs.LinesLanguage.{the_lines, one_lines}
use Rattle.utf8.proofs.Utf8Language.{accepts}
use Rattle.white.proofs.TrimLanguage.{trimmed, one_trimmed}
use Rattle.text.proofs.TokenLanguage.{token, one_token}

-- the way w carries the reading R out
pub record Carries (R : Reading) (w : Way) : Type 0 where
  pub valid_is : (l : List ℕ) → (w.valid l ≡ true) ↔ Row R.Character R.bytes l
  pub trims : (l : List ℕ) → Trimmed R.White R.bytes l (trim_by w.ahead w.behind l)
  pub one_trim : (l m : List ℕ) → Trimmed R.White R.bytes l m → trim_by w.ahead w.behind l ≡ m

-- where a test is a fact, its failure is the fact's
fails : {x : Bool} {A : Type 0} → (x ≡ true) ↔ A → x ≡ false → A → ⊥
fails f e a = true_not_false (sym (f.1 a) ∙ e)

holds_not : (x : Bool) {A : Type 0} → (x ≡ true) ↔ A → (A → ⊥) → x ≡ false
holds_not true f n = absurd (n (f.0 refl))
holds_not false f n = refl

-- a part that is not empty and starts with another byte is content
no_cons : {b : ℕ} {s : List ℕ} → b ∷ s ≡ [] → ⊥
no_cons e = let z : ◌≡◌ {A = ℕ} 0 1 = cc in omega arith

no_mark : (b : ℕ) (s : List ℕ) → eqb b 33 ≡ false → Comment (b ∷ s) → ⊥
no_mark b s e (t, p) = let q : b ≡ 33 = cc in true_not_false (sym (eq-eqb b 33 q) ∙ e)

part_content : (m : List ℕ) → (m ≡ [] → ⊥) → (Comment m → ⊥) → part_meaning m ≡ content m (take (token_length m) m)
part_content [] s n = absurd (s refl)
part_content (b ∷ m) s n = go (eqb b 33) refl
  where
    go : (x : Bool) → eqb b 33 ≡ x → pick x comment (content (b ∷ m) (take (token_length (b ∷ m)) (b ∷ m))) ≡ content (b ∷ m) (take (token_length (b ∷ m)) (b ∷ m))
    go true e = absurd (n (m, ap (λ (c : ℕ). c ∷ m) (eqb-true b 33 e)))
    go false e = refl

module _ (R : Reading) (w : Way) (C : Carries R w) where
  -- what the code finds is what the line says
  pub line_says : (l : List ℕ) → Line R l (meaning_by w l)
  unfolding meaning_by
  line_says l = by_valid (w.valid l) refl
    where
      by_mark : Row R.Character R.bytes l → (b : ℕ) (s : List ℕ) → Trimmed R.White R.bytes l (b ∷ s) → (x : Bool) → eqb b 33 ≡ x →
          Line R l (pick x comment (content (b ∷ s) (take (token_length (b ∷ s)) (b ∷ s))))
      by_mark r b s t true e = Line.is_comment r (b ∷ s) t (s, ap (λ (c : ℕ). c ∷ s) (eqb-true b 33 e)) refl
      by_mark r b s t false e = Line.says r (b ∷ s) (take (token_length (b ∷ s)) (b ∷ s)) t no_cons (no_mark b s e) (token (b ∷ s)) refl

      by_part : Row R.Character R.bytes l → (m : List ℕ) → Trimmed R.White R.bytes l m → Line R l (part_meaning m)
      by_part r [] t = Line.is_blank r t refl
      by_part r (b ∷ s) t = by_mark r b s t (eqb b 33) refl

      by_valid : (x : Bool) → w.valid l ≡ x → Line R l (pick x (part_meaning (trim_by w.ahead w.behind l)) invalid)
      by_valid true e = by_part ((C.valid_is l).0 e) (trim_by w.ahead w.behind l) (C.trims l)
      by_valid false e = Line.not_text (fails (C.valid_is l) e) refl

  -- and nothing else is
  pub one_line : (l : List ℕ) (x : Meaning) → Line R l x → meaning_by w l ≡ x
  unfolding meaning_by
  one_line l x (Line.not_text n e) = rw (holds_not (w.valid l) (C.valid_is l) n) (sym e)
  one_line l x (Line.is_blank r t e) = rw ((C.valid_is l).1 r, C.one_trim l [] t) (sym e)
  one_line l x (Line.is_comment r m t (s, p) e) = rw ((C.valid_is l).1 r, C.one_trim l m t, p) (sym e)
  one_line l x (Line.says r m k t s n q e) =
      rw ((C.valid_is l).1 r, C.one_trim l m t, part_content m s n) (ap (content m) (one_token m k q) ∙ sym e)

  -- so of all lines
  each_says : (ls : List (List ℕ)) → EachLine R ls (meanings w ls)
  unfolding meanings
  each_says [] = tt
  each_says (l ∷ ls) = (line_says l, each_says ls)

  one_each : (ls : List (List ℕ)) (xs : List Meaning) → EachLine R ls xs → meanings w ls ≡ xs
  unfolding meanings
  one_each [] [] e = refl
  one_each [] (x ∷ xs) e = absurd e
  one_each (l ∷ ls) [] e = absurd e
  one_each (l ∷ ls) (x ∷ xs) e = rw (one_line l x e.0, one_each ls xs e.1)

  -- what the code finds in a text is what the text says, and nothing else is
  pub text_says : (s : List ℕ) → Says R s (meanings w (lines s))
  text_says s = record { parts = lines s; lines = the_lines s; each = each_says (lines s) }

  pub one_text : (s : List ℕ) (xs : List Meaning) → Says R s xs → meanings w (lines s) ≡ xs
  one_text s xs t = ap (meanings w) (one_lines t.lines) ∙ one_each t.parts xs t.each

-- DOCUMENT 01'S READING is carried out
pub strict_carried : Carries strict strictly
strict_carried = record { valid_is = accepts; trims = trimmed; one_trim = one_trimmed }

-- what `read_line` finds is what the line says, and nothing else is
pub strict_line : (l : List ℕ) → Line strict l (meaning_by strictly l)
strict_line = line_says strict strictly strict_carried

pub one_strict_line : (l : List ℕ) (x : Meaning) → Line strict l x → meaning_by strictly l ≡ x
one_strict_line = one_line strict strictly strict_carried

-- what the lines of a text are found to say is what the text says, and nothing else is
pub strict_text : (s : List ℕ) → Says strict s (meanings strictly (lines s))
strict_text = text_says strict strictly strict_carried

pub one_strict_text : (s : List ℕ) (xs : List Meaning) → Says strict s xs → meanings strictly (lines s) ≡ xs
one_strict_text = one_text strict strictly strict_carried
