-- THE ROUND TRIP: the export of a scale, read again, is a scale file of the same description, items and sorted list exactly when the
-- description is one that a line gives back and each cents value is the f64 nearest its own three decimals. Over the language, and of the
-- calls. Assumes nothing.
use mathlib.Core.Path.{◌≡◌, refl, sym, ap, ◌∙◌, subst}
use mathlib.Core.Bool.{true}
use mathlib.Core.List.{List, [], ◌∷◌, ◌++◌}
use mathlib.Core.Logic.{◌↔◌}
use Prim.Native.Nat.{ℕ, ◌^◌, ◌≤◌, ◌<◌}
use native.Mathlib.Omega.{arith}
use lib.Dec.{lit<}
use lib.IntN.{pos}
use lib.ListN.{length}
use Rattle.base.specs.Said.{gives}
use Rattle.listing.specs.Listing.{Words, GiveAll, Entries}
use Rattle.printing.specs.PrintText.{whole_text}
use Rattle.scl.specs.Items.{AllHeld}
use Rattle.scl.specs.Table.{ItemTable, implicit, items_in, are_usable, is_items, Typed}
use Rattle.scl.specs.declared.Item.{Item}
use Rattle.scl.specs.declared.Scl.{Scl}
use Rattle.scl.proofs.Typed.{typed_held, held_after}
use Rattle.scl.proofs.Table.{items_are}
use Rattle.scl_read.specs.Language.{ContentLine, required, scale, ScaleText}
use Rattle.scl_read.specs.Reader.{scale_read, read_of, after_items, after_sorted, ReaderFinds}
use Rattle.scl_read.proofs.Language.{accepts}
use Rattle.scl_read.proofs.Leaves.{leaves_items, leaves_list}
use Rattle.scl_tables.specs.Build.{scale_of, after_list}
use Rattle.scl_tables.specs.Room.{room_of}
use Rattle.scl_write.specs.Export.{item_texts, listed_in, scale_text, export_of}
use Rattle.scl_write.proofs.ItemLines.{length_listed, listed_usable}
use Rattle.scl_write.proofs.Theorems.{export_accepted}
use Rattle.sorted.specs.Lent.{ListTable, is_list}
use Rattle.sorting.specs.Entries.{Entry}
use Rattle.text.specs.Reading.{Meaning}
use Rattle.text.proofs.LineLanguage.{one_strict_text}
use Rattle.writing.proofs.Plain.{selves}
use Rattle.writing.proofs.Printed.{size_reads}
use Rattle.promises.specs.scl.Again.{Described, ItemsBack, ComesBack}
use Rattle.promises.proofs.scl.ItemsBack.{words_of, entries_back, back_entries, words_of_law, only_words}
use Rattle.promises.proofs.scl.Described.{text_described, token_of, export_says, export_says_law}

-- ---- OVER THE LANGUAGE
module _ (d : List ℕ) (is : List Item) (list : List Entry) where
  abbrev s : List ℕ
  s = scale_text d is

  -- a scale that comes back is what its export says
  comes_back : AllHeld is → are_usable is ≡ true → length is ≤ 65535 → scale_of (implicit ∷ is) ≡ gives list → ComesBack d is → ScaleText s d is list
  unfolding selves
  comes_back f h l o c =
      record {
        says = export_says d is;
        text = export_says_law d is c.described;
        values = (d, (length is, tt));
        lines = record {
          first = record { whole = d; token = token_of d } ∷ record { whole = whole_text (pos (length is)); token = whole_text (pos (length is)) } ∷ [];
          rest = words_of (item_texts is);
          words = (refl, (refl, words_of_law (item_texts is)));
          values = (refl, (size_reads (2 ^ 16) (length is) (omega (arith, l)) (lit< tt), tt));
          entries = entries_back is f h c.cents;
        };
        not_large = l;
        consistent = refl;
        described = refl;
        sorted = o;
      }

  -- and what it says has come back
  pub items_came : are_usable is ≡ true → ScaleText s d is list → Described d → ItemsBack is
  unfolding selves
  items_came h t b =
      let e : t.says ≡ export_says d is = sym (one_strict_text s t.says t.text) ∙ one_strict_text s (export_says d is) (export_says_law d is b) in
      go t.lines.first t.lines.rest (subst (λ (ms : List Meaning). Words scale ms (t.lines.first ++ t.lines.rest)) e t.lines.words) t.lines.values t.lines.entries
    where
      go : (first rest : List ContentLine) → Words scale (export_says d is) (first ++ rest) → GiveAll scale tt required first t.values → Entries scale rest is → ItemsBack is
      go [] rest w g x = absurd g
      go (a ∷ []) rest w g x = absurd g.1
      go (a ∷ c ∷ []) rest w g x = back_entries is h (subst (λ (ws : List ContentLine). Entries scale ws is) (only_words (item_texts is) rest w.1.1) x)
      go (a ∷ c ∷ v ∷ vs) rest w g x = absurd g.1.1

  -- THE THEOREM: of usable items that the machine holds, and that have a sorted list, and of a description that is UTF-8
  pub round_trip : AllHeld is → are_usable is ≡ true → length is ≤ 65535 → scale_of (implicit ∷ is) ≡ gives list → ScaleText s d is list ↔ ComesBack d is
  round_trip f h l o = (λ t. let b = text_described t in record { described = b; cents = items_came h t b }, comes_back f h l o)

-- ---- OF THE CALLS: the bytes t that an export gave are read again, into tables with a place for each item and place 0 (`Typed`: what
-- columns of u32 hold)
module _ (scl : Scl) (table : ItemTable) (d : List ℕ) (room : ℕ) {t : List ℕ} (e : export_of scl table d room ≡ gives t) (l : scl.count ≤ 65535)
    (typed : Typed table) (list : List Entry) (o : scale_of (implicit ∷ listed_in scl.count table) ≡ gives list) where
  abbrev items : List Item
  items = listed_in scl.count table

  counted : length items ≡ scl.count
  counted = length_listed scl.count table ((items_are scl.count table).1 (export_accepted scl table d room e).0.items)

  pub export_back : ScaleText t d items list ↔ ComesBack d items
  export_back =
      let a = export_accepted scl table d room e in
      let h = (items_are scl.count table).1 a.0.items in
      rw a.1.0 (round_trip d items list (held_after (items_in scl.count table) (typed_held table typed scl.count)) (listed_usable scl.count table h) (omega (arith, counted, l)) o)

  -- the read accepts them as that scale exactly when it comes back
  pub read_back : (places : ℕ) → scl.count < places → ((read_of places t ≡ gives (scale_read scl.count t)) × ReaderFinds t d items list) ↔ ComesBack d items
  read_back places r =
      let a = accepts places t d items list in
      let q = ap (λ k. gives (scale_read k t)) counted in (
        λ x. export_back.0 (a.0 (x.0 ∙ sym q, x.1)).0,
        λ c. let y = a.1 (export_back.1 c, omega (arith, counted, r)) in (y.0 ∙ q, y.1),
      )

  -- and leaves its items, behind the implicit one, and its sorted list
  pub tables_back : ComesBack d items → (u : ItemTable) (m : ListTable) → scl.count < room_of u m →
      (is_items scl.count (after_items t u m) ≡ true) × (items_in scl.count (after_items t u m) ≡ implicit ∷ items) × (is_list scl.count (after_sorted t u m) ≡ true) × (after_sorted t u m ≡ after_list (gives list) m)
  tables_back c u m r =
      let x = export_back.1 c in
      let fits : length items < room_of u m = omega (arith, counted, r) in
      let p = leaves_items t u m x fits in
      let q = leaves_list t u m x fits in
      (rw counted at p.0, rw counted at p.1, rw counted at q.0, q.1)
