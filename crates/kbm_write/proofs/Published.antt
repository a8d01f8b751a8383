-- THE EXPORT IN THE PUBLISHED FORMAT: what is written is a mapping file as Scala's pages have it, with the same seven numbers (the
-- frequency with three decimals) and the same entries. Assumes nothing.
use Rattle.std.specs.Prelude.{ℤ}
use Rattle.std.specs.Prelude.{Some, None, Option}
use mathlib.Core.Path.{◌≡◌, refl, sym, ap, ◌∙◌}
use mathlib.Core.Bool.{Bool, true, false}
use mathlib.Core.List.{List, [], ◌∷◌, ◌++◌}
use mathlib.Core.Logic.{inl}
use native.Mathlib.Omega.{arith}
use lib.IntN.{pos}
use lib.Ieee.{Float}
use Rattle.base.proofs.Integers.{mag_in}
use Rattle.floats.specs.Ranges.{in_pitch}
use Rattle.floats.specs.Units.{negative}
use Rattle.floats.proofs.Ranges.{Within, within_fin, pitch_says}
use Rattle.printing.specs.PrintText.{scaled_of, text_of, whole_text, sign_text}
use Rattle.printing.proofs.Form.{printed}
use Rattle.writing.proofs.PublishedValues.{all_kept, alone, whole_number, number}
use Rattle.kbm.specs.Table.{AreI16}
use Rattle.kbm.specs.declared.Kbm.{Kbm}
use Rattle.kbm.proofs.Entries.{mag_i16}
use Rattle.kbm_write.specs.Export.{last_key_of, middle_key_of, entry_texts, export_text}
use Rattle.kbm_write.specs.Published as P
use Rattle.kbm_write.specs.Typed.{TypedKbm}
use Rattle.kbm_write.proofs.ExportLines.{export_texts, export_lines, export_words}
use Rattle.kbm_write.proofs.Lines.{pitch_limited}

-- a printed pitch is a frequency of so many thousandths
not_negative : (x : Float) → in_pitch x ≡ true → negative x ≡ false
unfolding negative
not_negative x h = go (pitch_says x h)
  where
    go : {y : Float} → Within 10 20 y → negative y ≡ false
    go (within_fin m e p l h) = refl

frequency : (x : Float) → in_pitch x ≡ true → P.Frequency (text_of 3 false x) (scaled_of 3 x) 3
frequency x h =
    let f = (printed 3 false x (pitch_limited x h)).is in
    let e : text_of 3 false x ≡ f.whole ++ (46 ∷ f.part) = f.text ∙ ap (λ (s : Bool). sign_text s false ++ (f.whole ++ (46 ∷ f.part))) (not_negative x h) in
    record {
      token = text_of 3 false x;
      stands = alone (text_of 3 false x);
      value =
          record {
            whole = f.whole;
            part = f.part;
            digits = record { first = f.first; second = f.second; some = omega (arith, f.some); writes = inl e };
            value = sym f.value;
            places = sym f.places;
          };
    }

-- each entry is a degree or a cross
degrees : (es : List (Option ℤ)) → AreI16 es → P.Degrees (entry_texts es) es
unfolding entry_texts
degrees [] d = tt
degrees (Some z ∷ es) d = ((whole_text z, alone (whole_text z), P.Degree.degree z (whole_number z (omega (arith, mag_i16 z d.0)))), degrees es d.1)
degrees (None ∷ es) d = ((120 ∷ [], alone (120 ∷ []), P.Degree.cross refl), degrees es d.1)

-- the bytes that the export of a mapping of its types writes are a text of the published format, and say the mapping's numbers, its pitch to
-- three decimals, and its entries
pub export_published : (kbm : Kbm) (es : List (Option ℤ)) → TypedKbm kbm es → P.PublishedText (export_text kbm es) (P.published_of kbm es)
export_published kbm es y =
    record {
      l1 = whole_text (pos kbm.count);
      l2 = whole_text kbm.start.0;
      l3 = whole_text (last_key_of kbm);
      l4 = whole_text (middle_key_of kbm);
      l5 = whole_text kbm.root.reference.0;
      l6 = text_of 3 false kbm.root.pitch.0;
      l7 = whole_text kbm.octave;
      parts = export_texts kbm es;
      rest = entry_texts es;
      lines = export_lines kbm es;
      keeps = all_kept (export_texts kbm es) (export_words kbm es);
      size = number (pos kbm.count) (omega (arith, y.size));
      first = number kbm.start.0 (mag_in kbm.start.0 y.start);
      last = number (last_key_of kbm) (mag_in (last_key_of kbm) y.last);
      middle = number (middle_key_of kbm) (mag_in (middle_key_of kbm) y.middle);
      reference = number kbm.root.reference.0 (mag_in kbm.root.reference.0 y.reference);
      frequency = frequency kbm.root.pitch.0 y.pitch;
      octave = number kbm.octave (omega (arith, mag_i16 kbm.octave y.octave));
      degrees = degrees es y.degrees;
      most = omega (arith, y.counted);
    }
