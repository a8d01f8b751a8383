-- The whole text of a scale: how its three runs of lines make it. Assumes nothing.
use mathlib.Core.Path.{◌≡◌, ◌∙◌}
use mathlib.Core.List.{List, ◌∷◌}
use Prim.Native.Nat.{ℕ, ◌+◌}
use native.Mathlib.Omega.{arith}
use lib.IntN.{pos}
use lib.ListN.{length}
use lib.Seq.{sets}
use Rattle.printing.specs.PrintText.{whole_text}
use Rattle.writing.specs.Lines.{line, lines_text}
use Rattle.writing.proofs.Lines.{length_line, lines_cons, then_lines}
use Rattle.scl.specs.declared.Item.{Item}
use Rattle.scl_write.specs.Export.{item_texts, scale_text}

-- description, item count, items
module _ (description : List ℕ) (items : List Item) (count : ℕ) (e : length items ≡ count) where
  abbrev number : List ℕ
  number = whole_text (pos count)

  abbrev texts : List (List ℕ)
  texts = item_texts items

  pub scale_length : length (scale_text description items) ≡ length description + 1 + length (line number) + length (lines_text texts)
  scale_length = rw e (omega (arith, lines_cons description (number ∷ texts), lines_cons number texts, length_line description))

  pub scale_written : (l0 l1 l2 l3 : List ℕ) (a b : ℕ) → l1 ≡ sets l0 0 (line description) → a ≡ 0 + length (line description) → l2 ≡ sets l1 a (line number) → b ≡ a + length (line number)
      → l3 ≡ sets l2 b (lines_text texts) → l3 ≡ sets l0 0 (scale_text description items)
  scale_written l0 l1 l2 l3 a b e1 p1 e2 p2 e3 =
      rw e (e3 ∙ then_lines l1 l2 a b number texts e2 p2 ∙ then_lines l0 l1 0 a description (number ∷ texts) e1 p1)
