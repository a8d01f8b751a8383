-- HOW LONG AN EXPORT IS AT MOST: 73 bytes, and 7 for each entry. So whoever lends that many bytes never gets 12. Assumes nothing.
use Rattle.std.specs.Prelude.{Some, None, Option}
use mathlib.Core.Path.{◌≡◌, refl, ◌∙◌}
use mathlib.Core.Bool.{Bool, true, false, ◌&&◌}
use mathlib.Core.List.{List, [], ◌∷◌}
use Prim.Native.Nat.{ℕ, ◌+◌, ◌*◌, ◌≤◌}
use native.Mathlib.Omega.{arith}
use lib.Dec.{leb, lit<}
use lib.Ieee.{Float}
use lib.IntN.{ℤ, pos}
use lib.ListN.{length}
use Rattle.base.specs.Integers.{in_i32, held}
use Rattle.base.specs.Numbers.{unusable, overflow, no_room}
use Rattle.base.specs.Said.{gives, refuses, pick, and_then}
use Rattle.base.proofs.Integers.{mag_in}
use Rattle.floats.proofs.Ranges.{Within, within_fin, pitch_says}
use Rattle.floats.specs.Ranges.{in_pitch}
use Rattle.floats.specs.Units.{negative}
use Rattle.printing.specs.PrintText.{sign_text, whole_text, text_of}
use Rattle.kbm.specs.Table.{in_i16, AreI16, is_table, table_of}
use Rattle.kbm.specs.declared.Kbm.{Kbm}
use Rattle.kbm.proofs.Entries.{mag_i16}
use Rattle.writing.specs.Fitted.{fitted}
use Rattle.writing.specs.Lines.{line, lines_text}
use Rattle.writing.proofs.Lines.{lines_cons}
use Rattle.writing.proofs.Room.{fitted_gives}
use Rattle.writing.proofs.Widths.{line_under, size_line, three_under}
use Rattle.kbm_write.specs.Export.{last_key_of, middle_key_of, entry_text, entry_texts, export_text, export_of, Writable}
use Rattle.kbm_write.specs.Typed.{TypedKbm, OfTypes}
use Rattle.kbm_write.proofs.Lines.{five_length}
use Rattle.kbm_write.proofs.Printed.{pitch_few}
use Rattle.kbm_write.proofs.Room.{four_length}
use Rattle.kbm_write.proofs.Theorems.{writable}
use Rattle.kbm_write.proofs.Typed.{typed}

key_line : (z : ℤ) → in_i32 z ≡ true → length (line (whole_text z)) ≤ 12
key_line z h = line_under 10 z (lit< tt) (omega (arith, mag_in z h))

degree_line : (z : ℤ) → in_i16 z ≡ true → length (line (whole_text z)) ≤ 7
degree_line z h = line_under 5 z (lit< tt) (omega (arith, mag_i16 z h))

no_sign : (x : Float) → in_pitch x ≡ true → length (sign_text (negative x) false) ≡ 0
unfolding negative
no_sign x h = go (pitch_says x h)
  where
    go : {y : Float} → Within 10 20 y → length (sign_text (negative y) false) ≡ 0
    go (within_fin m e p l h) = refl

-- a pitch has at most seven digits before the dot, three after it, and no sign
pitch_line : (x : Float) → in_pitch x ≡ true → length (line (text_of 3 false x)) ≤ 12
pitch_line x h = omega (arith, no_sign x h, three_under 7 x (lit< tt) (omega (arith, pitch_few x h)))

-- seven bytes an entry: -32768 and LF
entry_lines : (es : List (Option ℤ)) → AreI16 es → length (lines_text (entry_texts es)) ≤ 7 * length es
unfolding lines_text entry_texts
entry_lines [] d = omega arith
entry_lines (Some z ∷ es) d = omega (arith, lines_cons (entry_text (Some z)) (entry_texts es), degree_line z d.0, entry_lines es d.1)
entry_lines (None ∷ es) d = omega (arith, lines_cons (entry_text None) (entry_texts es), entry_lines es d.1)

-- the seven lines have 6, 12, 12, 12, 12, 12 and 7 bytes
pub export_short : (kbm : Kbm) (es : List (Option ℤ)) → TypedKbm kbm es → length (export_text kbm es) ≤ 73 + 7 * kbm.count
export_short kbm es y =
    let size = whole_text (pos kbm.count) in
    let first = whole_text kbm.start.0 in
    let last = whole_text (last_key_of kbm) in
    let middle = whole_text (middle_key_of kbm) in
    let reference = whole_text kbm.root.reference.0 in
    let pitch = text_of 3 false kbm.root.pitch.0 in
    let octave = whole_text kbm.octave in
    let a = four_length (size ∷ first ∷ last ∷ middle ∷ reference ∷ []) pitch octave (entry_texts es) in
    let b = five_length size first last middle reference in
    sum a b (size_line kbm.count y.size) (key_line kbm.start.0 y.start) (key_line (last_key_of kbm) y.last) (key_line (middle_key_of kbm) y.middle) (key_line kbm.root.reference.0 y.reference)
    (pitch_line kbm.root.pitch.0 y.pitch) (degree_line kbm.octave y.octave) (entry_lines es y.degrees) y.counted
  where
    sum : {all five a b c d e f g more count n : ℕ} → all ≡ five + (f + (g + more)) → five ≡ a + (b + (c + (d + e))) → a ≤ 6 → b ≤ 12 → c ≤ 12 → d ≤ 12 → e ≤ 12 → f ≤ 12 → g ≤ 7 → more ≤ 7 * n → n ≡ count
        → all ≤ 73 + 7 * count
    sum p q ha hb hc hd he hf hg hm hn = omega arith

-- what is written is the text of a mapping that can be written
module _ (kbm : Kbm) (map : List ℤ) where
  abbrev text : List ℕ
  text = export_text kbm (table_of kbm.count map)

  pub export_accepted : (room : ℕ) {t : List ℕ} → export_of kbm map room ≡ gives t → Writable kbm map × (t ≡ text)
  unfolding export_of held fitted
  export_accepted room {t} e =
      go (is_table kbm.count map) (in_pitch kbm.root.pitch.0) (in_i32 (last_key_of kbm)) (in_i32 (middle_key_of kbm)) (leb (length text) room) refl refl refl refl e
    where
      go : (a b c d f : Bool) → is_table kbm.count map ≡ a → in_pitch kbm.root.pitch.0 ≡ b → in_i32 (last_key_of kbm) ≡ c → in_i32 (middle_key_of kbm) ≡ d
          → pick (a && b) (and_then (pick c (gives (last_key_of kbm)) (refuses overflow 0)) (λ last. and_then (pick d (gives (middle_key_of kbm)) (refuses overflow 0)) (λ middle. pick f (gives text) (refuses no_room 0)))) (refuses unusable 0) ≡ gives t
          → Writable kbm map × (t ≡ text)
      go true true true true true h i j k q = (record { table = h; pitch = i; last = j; middle = k }, cc)
      go true true true true false h i j k q = let z : ◌≡◌ {A = ℕ} 0 1 = cc in absurd (omega arith)
      go true true true false f h i j k q = let z : ◌≡◌ {A = ℕ} 0 1 = cc in absurd (omega arith)
      go true true false d f h i j k q = let z : ◌≡◌ {A = ℕ} 0 1 = cc in absurd (omega arith)
      go true false c d f h i j k q = let z : ◌≡◌ {A = ℕ} 0 1 = cc in absurd (omega arith)
      go false b c d f h i j k q = let z : ◌≡◌ {A = ℕ} 0 1 = cc in absurd (omega arith)

module _ (kbm : Kbm) (map : List ℤ) (y : OfTypes kbm) where
  text_short : Writable kbm map → length (export_text kbm (table_of kbm.count map)) ≤ 73 + 7 * kbm.count
  text_short w = export_short kbm (table_of kbm.count map) (typed kbm map w y.start y.end y.reference y.octave y.count)

  -- THE BOUND: no accepted export is longer
  pub export_bound : (room : ℕ) (t : List ℕ) → export_of kbm map room ≡ gives t → length t ≤ 73 + 7 * kbm.count
  export_bound room t e =
      let a = export_accepted kbm map room e in
      rw a.1 (text_short a.0)

  -- so with that many bytes a mapping that can be written is written
  pub never_no_room : (room : ℕ) → Writable kbm map → 73 + 7 * kbm.count ≤ room → export_of kbm map room ≡ gives (export_text kbm (table_of kbm.count map))
  never_no_room room w h =
      let text = export_text kbm (table_of kbm.count map) in
      writable kbm map w room ∙ fitted_gives room text (omega (arith, text_short w))
