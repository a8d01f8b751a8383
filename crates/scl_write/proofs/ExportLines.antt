-- THE LINES OF AN EXPORT: the description, where it is one line, the count and the items, each with its LF. Document 01, "Writing".
-- Assumes nothing.
use Rattle.std.specs.Prelude.{Some, None}
use mathlib.Core.List.{List, [], ◌∷◌, append_assoc}
use Prim.Native.Nat.{ℕ}
use native.Mathlib.Omega.{arith}
use lib.IntN.{pos}
use lib.ListN.{length, length-append}
use Rattle.printing.specs.PrintText.{whole_text}
use Rattle.text.specs.Lines.{Lines}
use Rattle.writing.specs.Lines.{lines_text, number_text}
use Rattle.writing.proofs.Plain.{Plain, Word, Words, each_append, word_lines}
use Rattle.writing.proofs.Printed.{whole_word, three_word}
use Rattle.scl.specs.declared.Item.{Item}
use Rattle.scl.specs.declared.Item.TheVariants.{Cents, Fraction}
use Rattle.scl_write.specs.Export.{item_text, item_texts, scale_texts, scale_text}
use Rattle.scl_write.specs.Published.{OneLine}

-- every byte of an item's text is plain
pub item_word : (i : Item) → Word (item_text i)
item_word (Cents c) = three_word c
item_word (Fraction n (Some d)) =
    let a = whole_word (pos n) in
    let b = whole_word (pos d) in
    record {
      some = omega (arith, length-append (number_text n 47) (whole_text (pos d)), b.some);
      each = each_append Plain (number_text n 47) (whole_text (pos d)) (each_append Plain (whole_text (pos n)) (47 ∷ []) a.each ((omega arith, omega arith), tt)) b.each;
    }
item_word (Fraction n None) = whole_word (pos n)

pub item_words : (is : List Item) → Words (item_texts is)
unfolding item_texts
item_words [] = tt
item_words (i ∷ is) = (item_word i, item_words is)

-- the lines after the description
pub after_words : (is : List Item) → Words (whole_text (pos (length is)) ∷ item_texts is)
after_words is = (whole_word (pos (length is)), item_words is)

pub export_lines : (description : List ℕ) (is : List Item) → OneLine description → Lines (scale_text description is) (scale_texts description is)
unfolding lines_text
export_lines description is o =
    let rest = whole_text (pos (length is)) ∷ item_texts is in
    rw (append_assoc description (10 ∷ []) (lines_text rest)) (Lines.lf description o.no_lf o.no_cr (word_lines rest (after_words is)))
