-- HOW LONG AN EXPORT IS AT MOST: the description, 7 bytes, and 22 for each item. So whoever lends that many bytes never gets 12.
-- Assumes nothing.
use Rattle.std.specs.Prelude.{Some, None}
use mathlib.Core.Path.{◌≡◌, sym, ◌∙◌}
use mathlib.Core.Bool.{true, false}
use mathlib.Core.List.{List, [], ◌∷◌}
use Prim.Native.Nat.{ℕ, ◌+◌, ◌*◌, ◌^◌, ◌≤◌}
use native.Mathlib.Omega.{arith}
use lib.Dec.{lit<}
use lib.Ieee.{Float, neg, of_bits}
use lib.ListN.{length}
use Rattle.base.specs.Said.{Said, gives, refuses}
use Rattle.base.specs.Tables.{after}
use Rattle.base.proofs.Said.{no_refusal, same_refuses}
use Rattle.floats.proofs.Between.{range_sized}
use Rattle.floats.proofs.Sized.{Sized}
use Rattle.floats.specs.Units.{negative}
use Rattle.printing.specs.PrintText.{scaled_of}
use Rattle.printing.proofs.Texts.{sign_le}
use Rattle.writing.specs.Fitted.{text_length}
use Rattle.writing.specs.Lines.{line, lines_text}
use Rattle.writing.proofs.Lines.{length_number, lines_cons}
use Rattle.writing.proofs.Room.{fitted_gives}
use Rattle.writing.proofs.Widths.{few_thousandths, number_under, size_line, three_under}
use Rattle.scl.specs.Items.{is_usable_cents, is_usable, Held, AllHeld}
use Rattle.scl.specs.Table.{ItemTable, Typed, items_in, are_usable}
use Rattle.scl.specs.declared.Item.{Item}
use Rattle.scl.specs.declared.Item.TheVariants.{Cents, Fraction}
use Rattle.scl.specs.declared.Scl.{Scl}
use Rattle.scl.proofs.Table.{both, items_are}
use Rattle.scl.proofs.Typed.{typed_held, held_after}
use Rattle.scl_write.specs.Export.{item_text, item_texts, listed_in, export_text, export_of, NeverFull, Writable}
use Rattle.scl_write.proofs.ItemLines.{fraction_length, length_listed, listed_usable}
use Rattle.scl_write.proofs.ScaleLines.{scale_length}
use Rattle.scl_write.proofs.Theorems.{writable, export_accepted, unusable_exactly}

-- cents have at most five digits before the dot
cents_sized : (c : Float) → is_usable_cents c ≡ true → Sized (75 * 2 ^ 9) c
unfolding of_bits neg
cents_sized c h = range_sized 75 9 c h

pub cents_few : (c : Float) → is_usable_cents c ≡ true → scaled_of 3 c ≤ 38400000
cents_few c h = few_thousandths (75 * 2 ^ 9) (cents_sized c h)

-- the longest line: 4294967295/4294967295 and LF
item_line : (i : Item) → Held i → is_usable i ≡ true → length (line (item_text i)) ≤ 22
item_line (Cents c) f h = omega (arith, three_under 5 c (lit< tt) (omega (arith, cents_few c h)), sign_le (negative c) false)
item_line (Fraction n (Some d)) f h =
    omega (
      arith,
      fraction_length n d,
      length_number n 47,
      number_under 10 n 47 (lit< tt) (omega (arith, f.0)),
      length_number d 10,
      number_under 10 d 10 (lit< tt) (omega (arith, f.1)),
    )
item_line (Fraction n None) f h = omega (arith, number_under 10 n 10 (lit< tt) (omega (arith, f.0)))

item_lines : (is : List Item) → AllHeld is → are_usable is ≡ true → length (lines_text (item_texts is)) ≤ 22 * length is
unfolding lines_text item_texts are_usable
item_lines [] f h = omega arith
item_lines (i ∷ is) f h =
    let u = both (is_usable i) (are_usable is) h in
    omega (arith, lines_cons (item_text i) (item_texts is), item_line i f.0 u.0, item_lines is f.1 u.1)

-- the numbers of the items are of their types, as those of every lent table are (`never_full`, of the call)
module _ (scl : Scl) (table : ItemTable) (description : List ℕ) (count : scl.count ≤ 65535) (held : AllHeld (listed_in scl.count table)) where
  text_short : Writable scl table description → length (export_text scl table description) ≤ length description + 7 + 22 * scl.count
  text_short w =
      let items = listed_in scl.count table in
      let h = (items_are scl.count table).1 w.items in
      let n = length_listed scl.count table h in
      omega (arith, scale_length description items scl.count n, size_line scl.count count, item_lines items held (listed_usable scl.count table h), n)

  -- THE BOUND: no accepted export is longer
  pub export_bound : (room : ℕ) (t : List ℕ) → export_of scl table description room ≡ gives t → length t ≤ length description + 7 + 22 * scl.count
  export_bound room t e =
      let a = export_accepted scl table description room e in
      rw a.1.0 (text_short a.0)

  -- so with that many bytes a scale that can be written is written
  pub never_no_room : (room : ℕ) → Writable scl table description → length description + 7 + 22 * scl.count ≤ room → export_of scl table description room ≡ gives (export_text scl table description)
  never_no_room room w h = writable scl table description w room ∙ fitted_gives room (export_text scl table description) (omega (arith, text_short w))

-- ---- of the call, whose columns are of u32 and whose count is a u16
length_refused : (s : Said (List ℕ)) {n d : ℕ} → text_length s ≡ refuses n d → s ≡ refuses n d
length_refused (gives t) e = no_refusal e
length_refused (refuses n d) e = let r = same_refuses e in λ i. refuses (r.0 i) (r.1 i)

module _ (scl : Scl) (table : ItemTable) (description : List ℕ) (count : scl.count ≤ 65535) (typed : Typed table) where
  never_full : (room : ℕ) → NeverFull scl description room (text_length (export_of scl table description room))
  never_full room enough e =
      let q = length_refused (export_of scl table description room) e in
      let held = held_after (items_in scl.count table) (typed_held table typed scl.count) in
      let ten = (unusable_exactly scl table description room).1 (λ w. no_refusal (sym (never_no_room scl table description count held room w enough) ∙ q)) in
      absurd (omega (arith, (same_refuses (sym ten ∙ q)).0))

  -- by its answer, and the bytes after it
  pub full_too : (out : List ℕ) {said : Said ℕ} {left : List ℕ} → (said ≡ text_length (export_of scl table description (length out))) × (left ≡ after (export_of scl table description (length out)) (λ t. t) out)
      → (said ≡ text_length (export_of scl table description (length out))) × ((left ≡ after (export_of scl table description (length out)) (λ t. t) out) × NeverFull scl description (length out) said)
  full_too out h = (h.0, (h.1, rw h.0 (never_full (length out))))

-- what the three clauses of the export ask for
pub as_clauses : {A B C : Type 0} → A × (B × C) → record { value : A; out_after : B; never_full : C }
as_clauses p = record { value = p.0; out_after = p.1.0; never_full = p.1.1 }
