-- For each input, refused ones too, `export_kbm` has one possible result, and the lent bytes one possible state after it: document
-- 01, "What the contracts settle". When it gives 12, and what it writes. Assumes nothing.
use mathlib.Core.Path.{◌≡◌}
use mathlib.Core.List.{List, ◌++◌}
use mathlib.Core.Logic.{◌↔◌}
use Prim.Native.Nat.{ℕ, ◌≤◌, ◌<◌}
use lib.IntN.{ℤ}
use lib.ListN.{length, drop}
use Rattle.base.specs.Integers.{held}
use Rattle.base.specs.Numbers.{no_room}
use Rattle.base.specs.Said.{refuses, One, outcome}
use Rattle.base.specs.Tables.{after}
use Rattle.base.proofs.Said.{one_result}
use Rattle.kbm.specs.Table.{table_of}
use Rattle.kbm.specs.declared.Kbm.{Kbm}
use Rattle.writing.specs.Fitted.{fitted, text_length}
use Rattle.writing.proofs.Room.{fitted_full, fitted_gives}
use Rattle.writing.proofs.Theorems.{size_one}
use Rattle.kbm_write.specs.Export.{export_text, export_of, Writable}

-- one result, and one state of the lent bytes
module _ (kbm : Kbm) (map : List ℤ) (out : List ℕ) where
  pub export_kbm_one : One outcome (text_length (export_of kbm map (length out)))
  export_kbm_one = size_one (text_length (export_of kbm map (length out)))

  pub export_kbm_bytes : One (λ l. l) (after (export_of kbm map (length out)) (λ t. t) out)
  export_kbm_bytes = one_result (after (export_of kbm map (length out)) (λ t. t) out)

-- a mapping that can be written is written as its text, by its room
module _ (kbm : Kbm) (map : List ℤ) (w : Writable kbm map) where
  abbrev text : List ℕ
  text = export_text kbm (table_of kbm.count map)

  pub writable : (room : ℕ) → export_of kbm map room ≡ fitted room text
  unfolding export_of held
  writable room = rw (w.table, w.pitch, w.last, w.middle)

  -- "12 exactly when the text is longer than the lent bytes"
  pub no_room_exactly : (room : ℕ) → (export_of kbm map room ≡ refuses no_room 0) ↔ (room < length text)
  no_room_exactly room = rw (writable room) (fitted_full room text)

  -- else the text stands from the first byte on, "bytes after the text keep their values"
  pub written_exactly : (out : List ℕ) → length text ≤ length out → after (export_of kbm map (length out)) (λ t. t) out ≡ text ++ drop (length text) out
  written_exactly out h = rw (writable (length out), fitted_gives (length out) text h)
