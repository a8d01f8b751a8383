-- C READS A SCALE FILE, AND EXPORTS WHAT IT READ: telbijan_read_scl, then telbijan_export_scl of the columns that it left, under the
-- description that it found in the text. That is UTF-8 and one line, and so the export never answers 10. Assumes nothing.
use mathlib.Core.Path.{◌≡◌, refl, ◌∙◌, ap}
use mathlib.Core.Bool.{Bool, true, false}
use mathlib.Core.List.{List}
use mathlib.Core.Logic.{◌⊎◌, inl, inr}
use Prim.Native.Nat.{ℕ}
use native.Mathlib.Omega.{arith}
use lib.Dec.{leb}
use lib.ListN.{length}
use Rattle.base.specs.Numbers.{unusable, no_room}
use Rattle.base.specs.Said.{gives, refuses, pick}
use Rattle.scl.specs.Table.{ItemTable, is_items}
use Rattle.scl.specs.declared.Scl.{Scl}
use Rattle.scl_read.specs.declared.SclRead.{SclRead}
use Rattle.scl_write.specs.Export.{export_text, export_of}
use Rattle.sorted.specs.Lent.{ListTable}
use Rattle.text.specs.Part.{part}
use Rattle.utf8.specs.Utf8Machine.{utf8_from, none_due}
use Rattle.utf8.proofs.Utf8Language.{accepts}
use Rattle.writing.specs.Fitted.{fitted, text_length}
use Rattle.telbijan_answers.specs.Interface.{code, result, number_in}
use Rattle.telbijan_answers.proofs.Interface.{number_back}
use Rattle.telbijan_scales.specs.Calls.{ReadScl, ExportScl}
use Rattle.telbijan_scales.proofs.Readings.{accepted_call}
use Rattle.promises.specs.scl.Again.{Described}
use Rattle.promises.proofs.scl.Described.{text_described}

-- an export of usable items under a description of UTF-8 is written or has no room
usable_export : (scl : Scl) (table : ItemTable) (d : List ℕ) (room : ℕ) → is_items scl.count table ≡ true → utf8_from none_due d ≡ true →
    (result (text_length (export_of scl table d room)) ≡ 0) ⊎ (result (text_length (export_of scl table d room)) ≡ code no_room 0)
unfolding export_of fitted
usable_export scl table d room i u = rw (i, u) (go (leb (length (export_text scl table d)) room))
  where
    go : (b : Bool) → (result (text_length (pick b (gives (export_text scl table d)) (refuses no_room 0))) ≡ 0)
        ⊎ (result (text_length (pick b (gives (export_text scl table d)) (refuses no_room 0))) ≡ code no_room 0)
    go true = inl refl
    go false = inr refl

module _ (text : List ℕ) (t : ItemTable) (l : ListTable) (old : SclRead) (r : ℕ) (u : ItemTable) (m : ListTable) (new : SclRead)
    (read : ReadScl text t l old r u m new) (zero : r ≡ 0) where
  -- the description that is found: a part of the text
  abbrev found : List ℕ
  found = part text new.description.start new.description.end

  -- it is UTF-8, one line, trimmed, not blank and no comment
  pub found_described : Described found
  found_described =
      let (d, items, list, s, fits, leaves) = accepted_call text t l old r u m new read zero in
      rw leaves.description (text_described s)

  module _ (out : List ℕ) (size q : ℕ) (bytes : List ℕ) (written : ℕ) (wrote : ExportScl found u new.scl out size q bytes written) where
    -- THE THEOREM: the export answers 0, or 12 where the bytes lent are too few
    pub read_export : (q ≡ 0) ⊎ (q ≡ code no_room 0)
    read_export =
        let (d, items, list, s, fits, leaves) = accepted_call text t l old r u m new read zero in
        let utf8 : utf8_from none_due found ≡ true = (accepts found).1 found_described.utf8 in
        elim (usable_export new.scl u found (length out) leaves.items_used utf8) [
          | inl e ↦ inl (wrote.0.0 ∙ e)
          | inr e ↦ inr (wrote.0.0 ∙ e)
        ]

    -- so never 10
    pub never_unusable : number_in q ≡ unusable → ⊥
    never_unusable e = elim read_export [
      | inl h ↦ omega (arith, e, ap number_in h)
      | inr h ↦ omega (arith, e, ap number_in h, number_back no_room 0 (omega arith))
    ]
