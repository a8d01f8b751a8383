-- THE LINES OF AN EXPORT: the seven and the entries, each with its LF, and each says itself when the text is read. Document 01,
-- "Writing". Assumes nothing.
use Rattle.std.specs.Prelude.{ℤ}
use Rattle.std.specs.Prelude.{Option}
use mathlib.Core.Path.{◌≡◌}
use mathlib.Core.List.{List, ◌++◌}
use Prim.Native.Nat.{ℕ}
use lib.IntN.{pos}
use Rattle.text.specs.Cut.{lines}
use Rattle.text.specs.Lines.{Lines}
use Rattle.text.specs.ReadLine.{strictly, meanings}
use Rattle.text.specs.Reading.{strict, Says}
use Rattle.kbm.specs.declared.Kbm.{Kbm}
use Rattle.kbm_write.specs.Export.{key_texts, sound_texts, last_key_of, middle_key_of, entry_texts, export_text}
use Rattle.writing.proofs.Plain.{Words, selves, word_lines, words_say, words_found}
use Rattle.writing.proofs.Printed.{whole_word, three_word}
use Rattle.kbm_write.proofs.Printed.{entry_words}

module _ (kbm : Kbm) (es : List (Option ℤ)) where
  -- the texts of the lines
  abbrev pub export_texts : List (List ℕ)
  export_texts =
      (key_texts (pos kbm.count) kbm.start.0 (last_key_of kbm) (middle_key_of kbm) kbm.root.reference.0 ++ sound_texts kbm.root.pitch.0 kbm.octave)
      ++ entry_texts es

  pub export_words : Words export_texts
  export_words = (
    whole_word (pos kbm.count),
    (
      whole_word kbm.start.0,
      (
        whole_word (last_key_of kbm),
        (
          whole_word (middle_key_of kbm),
          (
            whole_word kbm.root.reference.0,
            (three_word kbm.root.pitch.0, (whole_word kbm.octave, entry_words es)),
          ),
        ),
      ),
    ),
  )

  pub export_lines : Lines (export_text kbm es) export_texts
  export_lines = word_lines export_texts export_words

  pub export_says_law : Says strict (export_text kbm es) (selves export_texts)
  export_says_law = words_say export_texts export_words

  pub export_found : meanings strictly (lines (export_text kbm es)) ≡ selves export_texts
  export_found = words_found export_texts export_words
