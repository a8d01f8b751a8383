-- The line of a refusal: its parts, its length, and where it stands. Assumes nothing.
use mathlib.Core.Path.{◌≡◌, refl, ap, ◌∙◌}
use mathlib.Core.List.{List, ◌++◌}
use Prim.Native.Nat.{ℕ, ◌+◌, ◌≤◌}
use native.Mathlib.Omega.{arith}
use lib.ListN.{length, length-append}
use lib.Seq.{sets}
use Rattle.writing.specs.Lines.{number_text}
use Rattle.writing.proofs.Lines.{number_short}
use Rattle.printing.proofs.Texts.{sets_append}
use Rattle.copying.specs.Copy.{word_text, refused_text}

module _ (number detail : ℕ) where
  pub refused_length : length (refused_text number detail) ≡ 8 + (length (number_text number 32) + length (number_text detail 10))
  refused_length = omega (arith, length-append (number_text number 32) (number_text detail 10))

  pub refused_short : length (refused_text number detail) ≤ 72
  refused_short = omega (arith, refused_length, number_short number 32, number_short detail 10)

  -- three texts, one after another
  pub refused_written : (l0 l1 l2 l3 : List ℕ) (a b : ℕ) → l1 ≡ sets l0 0 word_text → a ≡ 8 → l2 ≡ sets l1 a (number_text number 32) → b ≡ a + length (number_text number 32)
      → l3 ≡ sets l2 b (number_text detail 10) → l3 ≡ sets l0 0 (refused_text number detail)
  refused_written l0 l1 l2 l3 a b e1 p1 e2 p2 e3 =
      e3
      ∙ ap (λ (l : List ℕ). sets l b (number_text detail 10)) e2 ∙ sets_append l1 a b (number_text number 32) (number_text detail 10) p2
      ∙ ap (λ (l : List ℕ). sets l a (number_text number 32 ++ number_text detail 10)) e1
      ∙ sets_append l0 0 a word_text (number_text number 32 ++ number_text detail 10) (p1 ∙ refl)
