-- Document 01's example of `kbmcopy`, as the definition of the export gives it: a text by computation. Assumes nothing.
use mathlib.Core.Path.{◌≡◌, refl}
use mathlib.Core.Bool.{false}
use mathlib.Core.List.{List, [], ◌∷◌}
use Prim.Native.Nat.{ℕ}
use lib.IntN.{pos, negsuc}
use lib.Ieee.{round, binary64, of_bits, le}
use Rattle.base.specs.Integers.{held}
use Rattle.base.specs.Said.{gives, refuses}
use Rattle.floats.specs.Units.{negative}
use Rattle.kbm.specs.Table.{unmapped, are_entries, entries_of}
use Rattle.kbm.specs.declared.Kbm.{Kbm}
use Rattle.writing.specs.Fitted.{fitted}
use Rattle.writing.specs.Lines.{lines_text}
use Rattle.kbm_write.specs.Export.{entry_texts, export_of}

-- size 3, keys 0 to 127, reference 60, middle 62, formal octave 5, 261.6256 Hz
abbrev sample : Kbm
sample =
    record {
      root = record { reference = record { 0 = pos 60 }; pitch = record { 0 = round binary64 false 2616256 10000 }; offset = pos 2 };
      start = record { 0 = pos 0 };
      end = record { 0 = pos 128 };
      octave = pos 5;
      count = 3;
    }

-- the same, with the lowest end: there is no last key of 32 bits
abbrev low : Kbm
low = record { root = sample.root; start = sample.start; end = record { 0 = negsuc 2147483647 }; octave = sample.octave; count = sample.count }

-- `3` `0` `127` `62` `60` `261.626` `5` `0` `x` `x`, each with LF
abbrev example : List ℕ
example =
    51 ∷ 10 ∷ 48 ∷ 10 ∷ 49 ∷ 50 ∷ 55 ∷ 10 ∷ 54 ∷ 50 ∷ 10 ∷ 54 ∷ 48 ∷ 10 ∷ 50 ∷ 54 ∷ 49 ∷ 46 ∷ 54 ∷ 50 ∷ 54 ∷ 10 ∷ 53 ∷ 10 ∷ 48 ∷ 10 ∷ 120 ∷ 10 ∷ 120 ∷ 10 ∷ []

pub samples :
    (export_of sample (pos 0 ∷ unmapped ∷ unmapped ∷ []) 30 ≡ gives example)
    × (export_of sample (pos 0 ∷ unmapped ∷ unmapped ∷ []) 29 ≡ refuses 12 0)
    × (export_of sample (pos 0 ∷ unmapped ∷ []) 30 ≡ refuses 10 0)
    × (export_of sample (pos 0 ∷ unmapped ∷ pos 32768 ∷ []) 0 ≡ refuses 10 0)
    × (export_of low (pos 0 ∷ unmapped ∷ unmapped ∷ []) 0 ≡ refuses 11 0)
unfolding of_bits round le negative export_of held fitted lines_text entry_texts are_entries entries_of
samples = (refl, refl, refl, refl, refl)
