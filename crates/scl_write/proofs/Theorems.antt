-- For each input, refused ones too, `export_scl` has one possible result, and the lent bytes one possible state after it: document
-- 01, "What the contracts settle". When it gives 10 and 12, and what it writes. Assumes nothing.
use mathlib.Core.Path.{◌≡◌, refl, sym, ◌∙◌}
use mathlib.Core.Bool.{Bool, true, false, ◌&&◌}
use mathlib.Core.List.{List, ◌++◌}
use mathlib.Core.Logic.{◌↔◌}
use Prim.Native.Nat.{ℕ, ◌≤◌, ◌<◌}
use native.Mathlib.Omega.{arith}
use lib.ListN.{length, drop}
use Rattle.base.specs.Numbers.{unusable, no_room}
use Rattle.base.specs.Said.{gives, refuses, pick, Numbered, One, outcome}
use Rattle.base.specs.Tables.{after}
use Rattle.base.proofs.Said.{one_result, no_value, numbered_pick}
use Rattle.utf8.specs.Utf8Machine.{utf8_from, none_due}
use Rattle.utf8.proofs.Utf8Language.{accepts}
use Rattle.writing.specs.Fitted.{fitted, text_length}
use Rattle.writing.proofs.Room.{fitted_full, fitted_gives, fitted_given, fitted_refuses, fitted_numbered}
use Rattle.writing.proofs.Theorems.{size_one}
use Rattle.scl.specs.Table.{ItemTable, is_items}
use Rattle.scl.specs.declared.Scl.{Scl}
use Rattle.scl.proofs.Table.{both, items_are}
use Rattle.scl_write.specs.Export.{export_text, export_of, Writable}

-- one result, and one state of the lent bytes
module _ (scl : Scl) (table : ItemTable) (description out : List ℕ) where
  pub export_scl_one : One outcome (text_length (export_of scl table description (length out)))
  export_scl_one = size_one (text_length (export_of scl table description (length out)))

  pub export_scl_bytes : One (λ l. l) (after (export_of scl table description (length out)) (λ t. t) out)
  export_scl_bytes = one_result (after (export_of scl table description (length out)) (λ t. t) out)

module _ (scl : Scl) (table : ItemTable) (description : List ℕ) where
  abbrev pub text : List ℕ
  text = export_text scl table description

  abbrev tests : Bool
  tests = is_items scl.count table && utf8_from none_due description

  -- the tests of the code say that the scale can be written
  pub tested : (tests ≡ true) ↔ Writable scl table description
  tested = (
    (λ e.
        let t = both (is_items scl.count table) (utf8_from none_due description) e in
        record { items = (items_are scl.count table).0 t.0; description_is = (accepts description).0 t.1 }),
    (λ w. rw ((items_are scl.count table).1 w.items, (accepts description).1 w.description_is)),
  )

  -- a scale that can be written is written as its text, by its room
  pub writable : Writable scl table description → (room : ℕ) → export_of scl table description room ≡ fitted room text
  unfolding export_of
  writable w room = rw (tested.1 w)

  -- what is given is the text of a scale that can be written, and has room
  pub export_accepted : (room : ℕ) {t : List ℕ} → export_of scl table description room ≡ gives t → Writable scl table description × ((t ≡ text) × (length text ≤ room))
  unfolding export_of
  export_accepted room {t} e = go tests refl e
    where
      go : (b : Bool) → tests ≡ b → pick b (fitted room text) (refuses unusable 0) ≡ gives t → Writable scl table description × ((t ≡ text) × (length text ≤ room))
      go true h q = (tested.0 h, fitted_given room text q)
      go false h q = no_value q

  -- 10 exactly when the items or the description cannot be used, "10 and 11 come before 12"
  pub unusable_exactly : (room : ℕ) → (export_of scl table description room ≡ refuses unusable 0) ↔ (Writable scl table description → ⊥)
  unfolding export_of
  unusable_exactly room = (λ e w. omega (arith, fitted_refuses room text (sym (writable w room) ∙ e)), λ n. go tests refl n)
    where
      go : (b : Bool) → tests ≡ b → (Writable scl table description → ⊥) → pick b (fitted room text) (refuses unusable 0) ≡ refuses unusable 0
      go true h n = absurd (n (tested.0 h))
      go false h n = refl

  -- "12 exactly when the text is longer than the lent bytes"
  pub no_room_exactly : Writable scl table description → (room : ℕ) → (export_of scl table description room ≡ refuses no_room 0) ↔ (room < length text)
  no_room_exactly w room = rw (writable w room) (fitted_full room text)

  -- else the text stands from the first byte on, "bytes after the text keep their values"
  pub written_exactly : Writable scl table description → (out : List ℕ) → length text ≤ length out → after (export_of scl table description (length out)) (λ t. t) out ≡ text ++ drop (length text) out
  written_exactly w out h = rw (writable w (length out), fitted_gives (length out) text h)

  -- the numbers that arise are document 01's
  pub export_numbered : (room : ℕ) → Numbered (export_of scl table description room)
  unfolding export_of
  export_numbered room = numbered_pick tests (fitted_numbered room text) (Numbered.number (omega arith) (omega arith))
