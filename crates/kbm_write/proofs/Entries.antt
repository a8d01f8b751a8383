-- The lines of a table's entries, one after another. Assumes nothing.
use mathlib.Core.Path.{◌≡◌, ap}
use mathlib.Core.List.{List, [], ◌++◌}
use Prim.Native.Nat.{ℕ, ◌+◌, ◌<◌}
use native.Mathlib.Numerals.{add-one}
use lib.IntN.{ℤ, pos}
use lib.ListN.{length, drop, get_or}
use lib.Seq.{sets, drop-cons, drop-length}
use Rattle.writing.specs.Lines.{line, lines_text}
use Rattle.writing.proofs.Lines.{step_length, step_sets}
use Rattle.kbm.specs.Table.{entry_of, entries_of}
use Rattle.kbm_write.specs.Export.{entry_text, entry_texts, table_text}

-- the line of the entry at a place of a table
abbrev pub line_at : List ℤ → ℕ → List ℕ
line_at map i = line (entry_text (entry_of (get_or map i (pos 0))))

module _ (map : List ℤ) (i : ℕ) (h : i < length map) where
  -- the lines from a place on: that of its entry, and those from the next place on
  pub table_step : table_text (drop i map) ≡ line_at map i ++ table_text (drop (i + 1) map)
  unfolding lines_text entry_texts entries_of
  table_step = rw (add-one i, drop-cons map i (pos 0) h)

  pub table_length : length (table_text (drop i map)) ≡ length (line_at map i) + length (table_text (drop (i + 1) map))
  table_length = step_length (table_text (drop i map)) (entry_text (entry_of (get_or map i (pos 0)))) (table_text (drop (i + 1) map)) table_step

  -- one entry more is written
  pub table_sets : (l m : List ℕ) (at next : ℕ) → m ≡ sets l at (line_at map i) → next ≡ at + length (line_at map i) → sets m next (table_text (drop (i + 1) map)) ≡ sets l at (table_text (drop i map))
  table_sets = step_sets (table_text (drop i map)) (entry_text (entry_of (get_or map i (pos 0)))) (table_text (drop (i + 1) map)) table_step

-- past the last entry nothing is left
module _ (map : List ℤ) (i : ℕ) (h : i ≡ length map) where
  pub table_end : table_text (drop i map) ≡ []
  unfolding lines_text entry_texts entries_of
  table_end = rw (h, drop-length map)

  pub table_ends : length (table_text (drop i map)) ≡ 0
  table_ends = ap length table_end
