-- Document 01, "Writing": "The program `kbmcopy` reads a mapping from standard input and prints its export, or one line `refused
-- NUMBER DETAIL`. It has 8,192 entry places; input over 65,536 bytes gives `refused 12 0`." What it prints. Assumes nothing.
use Rattle.std.specs.Prelude.{List, [], ◌∷◌, ◌++◌, ℕ, ltb, length}
use Rattle.base.specs.Numbers.{no_room}
use Rattle.base.specs.Said.{Said, gives, refuses, pick}
use Rattle.writing.specs.Lines.{number_text}
use Rattle.kbm.specs.declared.Kbm.{Kbm}
use Rattle.kbm_read.specs.Reader.{read_of, entries_in}
use Rattle.kbm_write.specs.Export.{export_text}

-- `refused `
abbrev pub word_text : List ℕ
word_text = 114 ∷ 101 ∷ 102 ∷ 117 ∷ 115 ∷ 101 ∷ 100 ∷ 32 ∷ []

-- `refused NUMBER DETAIL` and LF
abbrev pub refused_text : ℕ → ℕ → List ℕ
refused_text number detail = word_text ++ (number_text number 32 ++ number_text detail 10)

-- what is printed for a text that says this: its export, or the one line
abbrev pub printed_as : List ℕ → Said Kbm → List ℕ
printed_as s (gives k) = export_text k (entries_in k.count s)
printed_as s (refuses number detail) = refused_text number detail

-- the same with 8,192 entry places
abbrev pub copy_text : List ℕ → List ℕ
copy_text s = printed_as s (read_of 8192 s)

-- THE PROGRAM: what is printed for an input
unfoldable pub printed : List ℕ → List ℕ
printed s = pick (ltb 65536 (length s)) (refused_text no_room 0) (copy_text s)
