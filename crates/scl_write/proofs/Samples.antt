-- Samples of exports, as the definition gives them: texts by computation. Assumes nothing.
use mathlib.Core.Path.{◌≡◌, refl}
use mathlib.Core.Bool.{true, false}
use mathlib.Core.List.{List, [], ◌∷◌}
use Prim.Native.Nat.{ℕ}
use lib.Ieee.{round, binary64, of_bits, le, lt, eq, neg}
use Rattle.base.specs.Said.{gives, refuses}
use Rattle.floats.specs.Floats.{zero_f}
use Rattle.floats.specs.Units.{negative}
use Rattle.utf8.specs.Utf8Machine.{lead_of, utf8_step, utf8_from}
use Rattle.writing.specs.Fitted.{fitted}
use Rattle.writing.specs.Lines.{lines_text}
use Rattle.scl.specs.Table.{ItemTable, item_table, items_of, are_usable}
use Rattle.scl.specs.declared.Scl.{Scl}
use Rattle.scl_write.specs.Export.{item_texts, export_of}

-- five items after place 0: -0.0 cents, 0.0625 cents, -1200.5 cents, 3/2, 2
abbrev scale : Scl
scale = record { count = 5 }

abbrev table : ItemTable
table =
    item_table (0 ∷ 0 ∷ 0 ∷ 0 ∷ 1 ∷ 2 ∷ [])
    (zero_f ∷ round binary64 true 0 1 ∷ round binary64 false 1 16 ∷ round binary64 true 2401 2 ∷ zero_f ∷ zero_f ∷ [])
    (0 ∷ 0 ∷ 0 ∷ 0 ∷ 3 ∷ 2 ∷ [])
    (0 ∷ 0 ∷ 0 ∷ 0 ∷ 2 ∷ 0 ∷ [])

-- `!`, which makes the description a comment: it is copied as it is
abbrev mark : List ℕ
mark = 33 ∷ []

-- `!` `5` `-0.000` `0.062` `-1200.500` `3/2` `2`, each with LF
abbrev written : List ℕ
written =
    33 ∷ 10 ∷ 53 ∷ 10 ∷ 45 ∷ 48 ∷ 46 ∷ 48 ∷ 48 ∷ 48 ∷ 10 ∷ 48 ∷ 46 ∷ 48 ∷ 54 ∷ 50 ∷ 10 ∷ 45 ∷ 49 ∷ 50 ∷ 48 ∷ 48 ∷ 46 ∷ 53 ∷ 48 ∷ 48 ∷ 10 ∷
    51 ∷ 47 ∷ 50 ∷ 10 ∷ 50 ∷ 10 ∷ []

pub samples :
    (export_of scale table mark 33 ≡ gives written)
    × (export_of scale table mark 32 ≡ refuses 12 0)
    × (export_of scale table (128 ∷ []) 0 ≡ refuses 10 0)
    × (export_of (record { count = 6 }) table mark 0 ≡ refuses 10 0)
    × (export_of (record { count = 0 }) table [] 3 ≡ gives (10 ∷ 48 ∷ 10 ∷ []))
unfolding of_bits round le lt eq neg negative export_of fitted lines_text item_texts items_of are_usable utf8_from utf8_step lead_of
samples = (refl, refl, refl, refl, refl)
