-- THE EXPORT IN THE PUBLISHED FORMAT: where the description is one line, what is written is a scale file as Scala's pages have it, with that
-- description, cents to three decimals and ratios exactly. Assumes nothing.
use Rattle.std.specs.Prelude.{Some, None}
use mathlib.Core.Path.{◌≡◌, refl, sym, ap}
use mathlib.Core.Bool.{Bool, true, false}
use mathlib.Core.List.{List, [], ◌∷◌, ◌++◌, append_assoc, append-nil}
use mathlib.Core.Logic.{◌⊎◌, inl, inr}
use Prim.Native.Nat.{ℕ, suc, ◌≤◌}
use native.Mathlib.Omega.{arith}
use lib.IntN.{pos}
use lib.ListN.{length}
use lib.Ieee.{Float}
use Rattle.base.specs.Said.{gives}
use Rattle.floats.specs.Units.{negative}
use Rattle.printing.specs.PrintText.{scaled_of, sign_text, text_of, whole_text}
use Rattle.printing.proofs.Form.{printed}
use Rattle.writing.specs.PublishedLines.{Kept}
use Rattle.writing.proofs.PublishedValues.{all_kept, number_digits, number}
use Rattle.scl.specs.Items.{is_usable_cents, is_usable, Held, AllHeld}
use Rattle.scl.specs.Table.{ItemTable, are_usable, Typed, items_in}
use Rattle.scl.specs.declared.Item.{Item}
use Rattle.scl.specs.declared.Item.TheVariants.{Cents, Fraction}
use Rattle.scl.specs.declared.Scl.{Scl}
use Rattle.scl.proofs.Items.{usable_fraction}
use Rattle.scl.proofs.Typed.{typed_held, held_after}
use Rattle.scl.proofs.Table.{both, items_are}
use Rattle.scl_write.specs.Export.{item_text, item_texts, listed_in, scale_texts, scale_text, export_of}
use Rattle.scl_write.specs.Published as P
use Rattle.scl_write.proofs.ExportLines.{after_words, export_lines}
use Rattle.scl_write.proofs.ItemLines.{cents_limited, length_listed, listed_usable}
use Rattle.scl_write.proofs.Theorems.{export_accepted}

-- printed cents are cents of so many thousandths
cents_text : (c : Float) → is_usable_cents c ≡ true → P.CentsText (text_of 3 false c) (negative c) (scaled_of 3 c) 3
cents_text c h =
    let f = (printed 3 false c (cents_limited c h)).is in
    record {
      whole = f.whole;
      part = f.part;
      first = f.first;
      second = f.second;
      some = omega (arith, f.some);
      writes = signed (negative c) (f.whole ++ 46 ∷ f.part) f.text;
      value = sym f.value;
      places = sym f.places;
    }
  where
    signed : (minus : Bool) (body : List ℕ) {t : List ℕ} → t ≡ sign_text minus false ++ body → ((minus ≡ false) × (t ≡ body)) ⊎ ((minus ≡ true) × (t ≡ 45 ∷ body))
    signed true body e = inr (refl, e)
    signed false body e = inl (refl, e)

-- an item's text is its pitch value
value : (i : Item) → Held i → is_usable i ≡ true → P.PitchText (item_text i) (P.published_pitch i)
value (Cents c) f h = P.PitchText.cents (cents_text c h)
value (Fraction n (Some d)) f h =
    let p = usable_fraction n (Some d) h in
    P.PitchText.ratio (whole_text (pos n)) (whole_text (pos d)) n d (append_assoc (whole_text (pos n)) (47 ∷ []) (whole_text (pos d)))
    (number_digits n (omega (arith, f.0))) (number_digits d (omega (arith, f.1))) p.0 p.1
value (Fraction n None) f h =
    let p = usable_fraction n None h in
    P.PitchText.whole n (number_digits n (omega (arith, f.0))) p.0

-- a value alone leads its line
pub leads_alone : (t : List ℕ) → P.LedBy t t
leads_alone t = record { before = []; rest = []; whole = sym (append-nil t); blank = tt; ignored = tt }

values : (is : List Item) → AllHeld is → are_usable is ≡ true → P.PitchLines (item_texts is) (P.pitches_of is)
unfolding item_texts are_usable
values [] f h = tt
values (i ∷ is) f h =
    let u = both (is_usable i) (are_usable is) h in
    ((item_text i, leads_alone (item_text i), value i f.0 u.0), values is f.1 u.1)

length_pitches : (is : List Item) → length (P.pitches_of is) ≡ length is
length_pitches [] = refl
length_pitches (i ∷ is) = ap suc (length_pitches is)

-- the bytes that the export of usable items of their types writes are a text of the published format
pub export_published : (description : List ℕ) (is : List Item) → P.OneLine description → AllHeld is → are_usable is ≡ true → length is ≤ 65535
    → P.PublishedText (scale_text description is) (P.published_of description is)
export_published description is o f h l =
    record {
      parts = scale_texts description is;
      count = whole_text (pos (length is));
      rest = item_texts is;
      lines = export_lines description is o;
      keeps = Kept.kept o.no_comment (all_kept (whole_text (pos (length is)) ∷ item_texts is) (after_words is));
      notes = rw (length_pitches is) (number (pos (length is)) (omega (arith, l)));
      values = values is f h;
    }

-- and so is whatever `export_scl` accepts (`Typed`: what columns of u32 hold)
pub accepted_published : (scl : Scl) (table : ItemTable) (description : List ℕ) (room : ℕ) {t : List ℕ} → export_of scl table description room ≡ gives t
    → P.OneLine description → scl.count ≤ 65535 → Typed table → P.PublishedText t (P.published_of description (listed_in scl.count table))
accepted_published scl table description room e o l typed =
    let a = export_accepted scl table description room e in
    let h = (items_are scl.count table).1 a.0.items in
    rw a.1.0 (export_published description (listed_in scl.count table) o (held_after (items_in scl.count table) (typed_held table typed scl.count)) (listed_usable scl.count table h) (omega (arith, length_listed scl.count table h, l)))
