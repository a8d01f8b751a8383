-- THE CALL telbijan_read_scl OVER THE LANGUAGE: accepted exactly for the texts of it that have room, with the one reading in what is
-- stored and lent; refused exactly for the earliest fault, whose number and detail are in the result, with everything as it was.
-- Assumes nothing.
use mathlib.Core.Path.{◌≡◌, refl, sym, ◌∙◌, ap}
use mathlib.Core.List.{List}
use Prim.Native.Nat.{ℕ, ◌^◌, ◌+◌, ◌<◌}
use native.Mathlib.Omega.{arith}
use lib.ListN.{length}
use Rattle.base.specs.Said.{Said, gives, refuses}
use Rattle.scl.specs.Table.{ItemTable, items_in, is_items}
use Rattle.scl.specs.declared.Item.{Item}
use Rattle.scl_tables.specs.Room.{room_of}
use Rattle.sorted.specs.Lent.{ListTable, is_list}
use Rattle.sorting.specs.Entries.{Entry}
use Rattle.text.specs.Part.{part}
use Rattle.scl_read.specs.Language.{ScaleText, FaultText}
use Rattle.scl_read.specs.Reader.{scale_read, read_of}
use Rattle.scl_read.specs.Refusals.{MayRefuse}
use Rattle.scl_read.specs.declared.SclRead.{SclRead}
use Rattle.scl_build.specs.Builder.{behind}
use Rattle.scl_read.proofs.Inside.{description_inside, detail_small, read_behind}
use Rattle.scl_read.proofs.Language.{accepts, accepted, refuses_fault, described}
use Rattle.scl_read.proofs.Leaves.{leaves_items, leaves_list}
use Rattle.scl_read.proofs.Numbers.{read_scl_numbered}
use Rattle.scl_read.proofs.Refusals.{fault_listed}
use Rattle.telbijan_answers.specs.Interface.{result, kept, number_in, detail_in}
use Rattle.telbijan_answers.proofs.Interface.{coded, zero_accepted, refused_back}
use Rattle.telbijan_scales.specs.Calls.{ReadScl}
use Rattle.telbijan_scales.specs.Readings.{ReadLeaves}

module _ (text : List ℕ) (t : ItemTable) (l : ListTable) (old : SclRead) (r : ℕ) (u : ItemTable) (m : ListTable) (new : SclRead)
    (c : ReadScl text t l old r u m new) where
  abbrev said : Said SclRead
  said = read_of (room_of t l) text

  -- REFUSED: the earliest fault is what the result says, and columns and numbers are as they were
  pub refused_call : length text < 2 ^ 56 → (number detail : ℕ) → FaultText text number detail (room_of t l) →
      (r ≡ 0 → ⊥) × (number_in r ≡ number) × (detail_in r ≡ detail) × (u ≡ t) × (m ≡ l) × (new ≡ old)
  refused_call short number detail f =
      let e : said ≡ refuses number detail = (refuses_fault (room_of t l) text number detail).1 f in
      let b = refused_back (coded (read_scl_numbered (room_of t l) text)) c.0 e (detail_small f short) in
      (b.0, b.1, b.2, c.1 ∙ rw e, c.2 ∙ rw e, c.3 ∙ ap (λ (s : Said SclRead). kept s old) e)

  -- and a result that is not 0 says the earliest fault, which is in the header's list
  pub fault_call : length text < 2 ^ 56 → (r ≡ 0 → ⊥) →
      FaultText text (number_in r) (detail_in r) (room_of t l) × MayRefuse text (room_of t l) (number_in r) (detail_in r)
  fault_call short nonzero = go said refl
    where
      go : (s : Said SclRead) → said ≡ s →
          FaultText text (number_in r) (detail_in r) (room_of t l) × MayRefuse text (room_of t l) (number_in r) (detail_in r)
      go (gives x) e = absurd (nonzero (c.0 ∙ ap result e))
      go (refuses number detail) e =
          let f = (refuses_fault (room_of t l) text number detail).0 e in
          let b = refused_call short number detail f in
          rw (b.1, b.2) (f, fault_listed f)

  -- a text of the language that has room: result 0, and what is stored and lent is its reading
  pub language_call : {d : List ℕ} {items : List Item} {list : List Entry} → ScaleText text d items list → length items < room_of t l →
      (r ≡ 0) × ReadLeaves text t l d items list u m new
  language_call {d} {items} {list} s fits =
      let e = ((accepts (room_of t l) text d items list).1 (s, fits)).0 in
      let is : new ≡ scale_read (length items) text = c.3 ∙ ap (λ (x : Said SclRead). kept x old) e in
      let inside = description_inside text in
      let from = ap (λ (x : SclRead). x.description.start) is in
      let to = ap (λ (x : SclRead). x.description.end) is in
      let left = leaves_items text t l s fits in
      let sorted = leaves_list text t l s fits in (
        c.0 ∙ ap result e,
        record {
          count = ap (λ (x : SclRead). x.scl.count) is;
          starts = omega (arith, inside.0, from, to);
          ends = omega (arith, inside.1, to);
          description = (λ i. part text (from i) (to i)) ∙ described s;
          items_are = (λ i. items_in (is i).scl.count (c.1 i)) ∙ left.1;
          items_used = (λ i. is_items (is i).scl.count (c.1 i)) ∙ left.0;
          items_behind = ap (behind (length items + 1)) c.1 ∙ read_behind text t l s fits;
          list_is = c.2 ∙ sorted.1;
          list_used = (λ i. is_list (is i).scl.count (c.2 i)) ∙ sorted.0;
        },
      )

  -- ACCEPTED: the text is a scale file that has room, and what is stored and lent is its one reading
  pub accepted_call : r ≡ 0 → (d : List ℕ) × (items : List Item) × (list : List Entry) × ScaleText text d items list ×
      (length items < room_of t l) × ReadLeaves text t l d items list u m new
  accepted_call zero =
      let (x, e) = (zero_accepted said (coded (read_scl_numbered (room_of t l) text))).0 (sym c.0 ∙ zero) in
      let (d, list, s, fits, is) = accepted (room_of t l) text x e in
      (d, _, list, s, fits, (language_call s fits).1)
