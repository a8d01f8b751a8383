-- THE ROUND TRIP: the export of a mapping, read again into a table with a place for each entry, is the same mapping exactly when its range
-- has a key, reference and middle key fit i16 and the pitch is the f64 nearest its own three decimals. That a read leaves the entries is
-- `entries_back` of Agree, also where the pitch comes back as another. Assumes nothing.
use Rattle.std.specs.Prelude.{Option, Ok}
use mathlib.Core.Path.{◌≡◌, refl, sym, ap, ◌∙◌}
use mathlib.Core.Bool.{Bool, true, false}
use mathlib.Core.List.{List, ◌∷◌, append-nil}
use mathlib.Core.Logic.{◌↔◌}
use Prim.Native.Nat.{ℕ, zero, suc, ◌+◌, ◌-◌, ◌^◌, ◌≤◌, ◌<◌}
use native.Mathlib.Nat.{zero-add}
use native.Mathlib.Omega.{arith}
use lib.Dec.{lit<, lit≤}
use lib.Ieee.{Float}
use lib.IntN.{ℤ, pos, negsuc, ◌+ℤ◌, ◌-ℤ◌, +ℤ_comm, +ℤ-neg_ℤ_cancel, -ℤ-+ℤ_cancel, -ℤ_one}
use lib.ListN.{length}
use lib.Signed.{le_z, mag}
use borrow.Author.Tests.{le-leb, lt-leb}
use Rattle.base.specs.Integers.{in_i32}
use Rattle.base.specs.Said.{gives, refuses}
use Rattle.base.proofs.Integers.{mag_in}
use Rattle.base.proofs.Order.{at_most, passed, before_end, end_after}
use Rattle.base.proofs.Said.{same_value, no_value}
use Rattle.floats.specs.Ranges.{in_pitch}
use Rattle.decimals.specs.DecimalScan.{read_decimal}
use Rattle.integers.specs.Integer.{Int, value, none, read_int}
use Rattle.printing.specs.PrintText.{text_of, whole_text}
use Rattle.decimals.specs.declared.DecimalError.TheVariants as decimal
use Rattle.decimals.proofs.Language.{gives_complete}
use Rattle.integers.proofs.Language.{sound, complete}
use Rattle.kbm.specs.Table.{in_i16}
use Rattle.kbm.specs.declared.Kbm.{Kbm}
use Rattle.kbm.proofs.Entries.{mag_i16}
use Rattle.kbm_read.specs.Reader.{take_token, walk, unread, mapping_of, read_of, given_from, entries_in}
use Rattle.kbm_read.specs.Language.{blanks, MappingText}
use Rattle.kbm_read.proofs.Language.{accepts}
use Rattle.listing.specs.Reader.{walk_lines}
use Rattle.writing.specs.Thousandths.{nearest_three}
use Rattle.kbm_write.specs.Again.{ComesBack}
use Rattle.kbm_write.specs.Export.{last_key_of, middle_key_of, entry_texts, export_text}
use Rattle.kbm_write.proofs.ExportLines.{export_texts, export_found}
use Rattle.writing.proofs.Plain.{selves}
use Rattle.writing.proofs.Printed.{size_reads, reads_only}
use Rattle.kbm_write.proofs.Printed.{pitch_reads}
use Rattle.kbm_write.specs.Typed.{TypedKbm}
use Rattle.promises.proofs.kbm.Walk.{whole_value, head_is, head_read, entries_read, ends_read, entries_given, head_given}

-- an i16 by its magnitude
in_i16_law : (z : ℤ) → mag z < 32768 → in_i16 z ≡ true
in_i16_law (pos n) h = le-leb n 32767 (omega arith)
in_i16_law (negsuc n) h = rw (le-leb n 32767 (omega arith))

-- the last key is below the largest
last_below : (z : ℤ) → in_i32 z ≡ true → le_z (pos 2147483647) (z -ℤ pos 1) ≡ false
last_below (pos zero) h = refl
last_below (pos (suc n)) h = ap (le_z (pos 2147483647)) (-ℤ_one (pos (suc n))) ∙ lt-leb 2147483647 n (omega (arith, mag_in (pos (suc n)) h))
last_below (negsuc n) h = refl

-- the refusals of the lines that may not come back
module _ (room : ℕ) (t1 t2 t3 t4 t5 t6 : List ℕ) (ts : List (List ℕ)) {size : ℕ} {first last : ℤ} (e1 : read_int false (2 ^ 16) t1 ≡ value (pos size)) (e2 : read_int true (2 ^ 31) t2 ≡ value first)
    (e3 : read_int true (2 ^ 31) t3 ≡ value last) (n3 : le_z (pos 2147483647) last ≡ false) where
  last_not : le_z first last ≡ false → walk room 1 unread (selves (t1 ∷ t2 ∷ t3 ∷ t4 ∷ t5 ∷ t6 ∷ ts)) ≡ refuses 25 3
  unfolding walk_lines selves take_token
  last_not d3 = rw (e1, e2, e3, n3, d3)

  middle_not : le_z first last ≡ true → read_int true (2 ^ 15) t4 ≡ none → walk room 1 unread (selves (t1 ∷ t2 ∷ t3 ∷ t4 ∷ t5 ∷ t6 ∷ ts)) ≡ refuses 3 4
  unfolding walk_lines selves take_token
  middle_not u3 e4 = rw (e1, e2, e3, n3, u3, e4)

  reference_not : {middle : ℤ} → le_z first last ≡ true → read_int true (2 ^ 15) t4 ≡ value middle → read_int true (2 ^ 15) t5 ≡ none → walk room 1 unread (selves (t1 ∷ t2 ∷ t3 ∷ t4 ∷ t5 ∷ t6 ∷ ts)) ≡ refuses 3 5
  unfolding walk_lines selves take_token
  reference_not u3 e4 e5 = rw (e1, e2, e3, n3, u3, e4, e5)

  pitch_not : {middle reference : ℤ} {hz : Float} → le_z first last ≡ true → read_int true (2 ^ 15) t4 ≡ value middle → read_int true (2 ^ 15) t5 ≡ value reference → read_decimal t6 ≡ Ok hz → in_pitch hz ≡ false
      → walk room 1 unread (selves (t1 ∷ t2 ∷ t3 ∷ t4 ∷ t5 ∷ t6 ∷ ts)) ≡ refuses 10 6
  unfolding walk_lines selves take_token
  pitch_not u3 e4 e5 e6 n6 = rw (e1, e2, e3, n3, u3, e4, e5, e6, n6)

-- the mapping of the seven lines is the one that was written
mapping_is : (kbm : Kbm) → mapping_of (head_is kbm.count kbm.start.0 (last_key_of kbm) (middle_key_of kbm) kbm.root.reference.0 kbm.root.pitch.0 kbm.octave) ≡ kbm
mapping_is kbm =
    let r = kbm.root.reference.0 in
    let o = kbm.root.offset in
    let offset : r +ℤ o -ℤ r ≡ o = ap (λ (z : ℤ). z -ℤ r) (+ℤ_comm r o) ∙ +ℤ-neg_ℤ_cancel o r in
    let end : kbm.end.0 -ℤ pos 1 +ℤ pos 1 ≡ kbm.end.0 = -ℤ-+ℤ_cancel kbm.end.0 (pos 1) in
    λ i. record { root = record { reference = kbm.root.reference; pitch = kbm.root.pitch; offset = offset i }; start = kbm.start; end = record { 0 = end i }; octave = kbm.octave; count = kbm.count }

module _ (kbm : Kbm) (es : List (Option ℤ)) (y : TypedKbm kbm es) where
  abbrev hz : Float
  hz = kbm.root.pitch.0

  size_back : read_int false (2 ^ 16) (whole_text (pos kbm.count)) ≡ value (pos kbm.count)
  size_back = sym (complete false (2 ^ 16) (lit< tt) (pos kbm.count) (whole_text (pos kbm.count)) (size_reads (2 ^ 16) kbm.count (omega (arith, y.size)) (lit< tt)))

  start_back : read_int true (2 ^ 31) (whole_text kbm.start.0) ≡ value kbm.start.0
  start_back = whole_value (2 ^ 31) kbm.start.0 (lit< tt) (mag_in kbm.start.0 y.start) (lit< tt)

  last_back : read_int true (2 ^ 31) (whole_text (last_key_of kbm)) ≡ value (last_key_of kbm)
  last_back = whole_value (2 ^ 31) (last_key_of kbm) (lit< tt) (mag_in (last_key_of kbm) y.last) (lit< tt)

  last_low : le_z (pos 2147483647) (last_key_of kbm) ≡ false
  last_low = last_below kbm.end.0 y.end

  pitch_back : read_decimal (text_of 3 false hz) ≡ Ok (nearest_three hz)
  pitch_back = gives_complete (text_of 3 false hz) (nearest_three hz) (pitch_reads hz y.pitch)

  octave_back : read_int true (2 ^ 15) (whole_text kbm.octave) ≡ value kbm.octave
  octave_back = whole_value (2 ^ 15) kbm.octave (lit< tt) (mag_i16 kbm.octave y.octave) (lit< tt)

  -- the last key is not below the first
  abbrev Up : Type 0
  Up = le_z kbm.start.0 (last_key_of kbm) ≡ true

  -- what is read where the range has a key, the two keys are read, and the pitch's three decimals are usable
  read_back : (room : ℕ) → kbm.count ≤ room → Up → read_int true (2 ^ 15) (whole_text (middle_key_of kbm)) ≡ value (middle_key_of kbm) → read_int true (2 ^ 15) (whole_text kbm.root.reference.0) ≡ value kbm.root.reference.0
      → {x : Float} → read_decimal (text_of 3 false hz) ≡ Ok x → in_pitch x ≡ true
      → read_of room (export_text kbm es) ≡ gives (mapping_of (head_is kbm.count kbm.start.0 (last_key_of kbm) (middle_key_of kbm) kbm.root.reference.0 x kbm.octave))
  read_back room r u e4 e5 {x} e6 n6 =
      let h = head_is kbm.count kbm.start.0 (last_key_of kbm) (middle_key_of kbm) kbm.root.reference.0 x kbm.octave in
      ap (walk room 1 unread) (export_found kbm es)
      ∙ head_read room (whole_text (pos kbm.count)) (whole_text kbm.start.0) (whole_text (last_key_of kbm)) (whole_text (middle_key_of kbm)) (whole_text kbm.root.reference.0) (text_of 3 false hz) (whole_text kbm.octave) (entry_texts es)
      size_back start_back last_back last_low u e4 e5 e6 n6 octave_back
      ∙ entries_read room 8 h 0 es y.degrees (omega (arith, y.counted, r))
      ∙ ends_read room h (0 + length es) (zero-add (length es) ∙ y.counted) (omega (arith, y.counted, y.size)) (omega (arith, y.counted, r))

  module _ (room : ℕ) (r : kbm.count ≤ room) where
    comes_back : ComesBack kbm → read_of room (export_text kbm es) ≡ gives kbm
    comes_back c =
        read_back room r (passed (before_end c.forward)) (whole_value (2 ^ 15) (middle_key_of kbm) (lit< tt) (mag_i16 (middle_key_of kbm) c.middle) (lit< tt))
        (whole_value (2 ^ 15) kbm.root.reference.0 (lit< tt) (mag_i16 kbm.root.reference.0 c.reference) (lit< tt))
        (pitch_back ∙ ap Ok c.pitch) y.pitch
        ∙ ap gives (mapping_is kbm)

    abbrev ts : List (List ℕ)
    ts = whole_text kbm.octave ∷ entry_texts es

    -- what reading gives determines which lines were read
    had_pitch : Up → (b : Bool) → in_pitch (nearest_three hz) ≡ b → read_int true (2 ^ 15) (whole_text (middle_key_of kbm)) ≡ value (middle_key_of kbm) → read_int true (2 ^ 15) (whole_text kbm.root.reference.0) ≡ value kbm.root.reference.0
        → read_of room (export_text kbm es) ≡ gives kbm → nearest_three hz ≡ hz
    had_pitch u false n e4 e5 e =
        no_value (sym (ap (walk room 1 unread) (export_found kbm es)
        ∙ pitch_not room (whole_text (pos kbm.count)) (whole_text kbm.start.0) (whole_text (last_key_of kbm)) (whole_text (middle_key_of kbm)) (whole_text kbm.root.reference.0) (text_of 3 false hz) ts size_back start_back last_back last_low u e4 e5 pitch_back n) ∙ e)
    had_pitch u true n e4 e5 e = ap (λ (k : Kbm). k.root.pitch.0) (same_value _ _ (sym (read_back room r u e4 e5 pitch_back n) ∙ e))

    had_reference : Up → (i : Int) → read_int true (2 ^ 15) (whole_text kbm.root.reference.0) ≡ i → read_int true (2 ^ 15) (whole_text (middle_key_of kbm)) ≡ value (middle_key_of kbm) → in_i16 (middle_key_of kbm) ≡ true
        → read_of room (export_text kbm es) ≡ gives kbm → ComesBack kbm
    had_reference u none q e4 m e =
        no_value (sym (ap (walk room 1 unread) (export_found kbm es)
        ∙ reference_not room (whole_text (pos kbm.count)) (whole_text kbm.start.0) (whole_text (last_key_of kbm)) (whole_text (middle_key_of kbm)) (whole_text kbm.root.reference.0) (text_of 3 false hz) ts size_back start_back last_back last_low u e4 q) ∙ e)
    had_reference u (value z) q e4 m e =
        let key = kbm.root.reference.0 in
        let h = reads_only (2 ^ 15) key z (lit< tt) (lit≤ tt) (mag_in key y.reference) (sound true (2 ^ 15) (lit< tt) z (whole_text key) (sym q)) in
        record {
          forward = end_after (at_most u);
          reference = in_i16_law key h.1;
          middle = m;
          pitch = had_pitch u (in_pitch (nearest_three hz)) refl e4 (q ∙ ap value h.0) e;
        }

    had_middle : Up → (i : Int) → read_int true (2 ^ 15) (whole_text (middle_key_of kbm)) ≡ i → read_of room (export_text kbm es) ≡ gives kbm → ComesBack kbm
    had_middle u none q e =
        no_value (sym (ap (walk room 1 unread) (export_found kbm es)
        ∙ middle_not room (whole_text (pos kbm.count)) (whole_text kbm.start.0) (whole_text (last_key_of kbm)) (whole_text (middle_key_of kbm)) (whole_text kbm.root.reference.0) (text_of 3 false hz) ts size_back start_back last_back last_low u q) ∙ e)
    had_middle u (value z) q e =
        let key = middle_key_of kbm in
        let h = reads_only (2 ^ 15) key z (lit< tt) (lit≤ tt) (mag_in key y.middle) (sound true (2 ^ 15) (lit< tt) z (whole_text key) (sym q)) in
        had_reference u (read_int true (2 ^ 15) (whole_text kbm.root.reference.0)) refl (q ∙ ap value h.0) (in_i16_law key h.1) e

    had_last : (b : Bool) → le_z kbm.start.0 (last_key_of kbm) ≡ b → read_of room (export_text kbm es) ≡ gives kbm → ComesBack kbm
    had_last false d e =
        no_value (sym (ap (walk room 1 unread) (export_found kbm es)
        ∙ last_not room (whole_text (pos kbm.count)) (whole_text kbm.start.0) (whole_text (last_key_of kbm)) (whole_text (middle_key_of kbm)) (whole_text kbm.root.reference.0) (text_of 3 false hz) ts size_back start_back last_back last_low d) ∙ e)
    had_last true u e = had_middle u (read_int true (2 ^ 15) (whole_text (middle_key_of kbm))) refl e

    -- an export read again, into a table with a place for each entry, is the same mapping exactly when it comes back
    pub round_trip : (read_of room (export_text kbm es) ≡ gives kbm) ↔ ComesBack kbm
    round_trip = (had_last (le_z kbm.start.0 (last_key_of kbm)) refl, comes_back)

  -- the entries that the lines of the export say, read or not
  lines_back : entries_in kbm.count (export_text kbm es) ≡ es
  unfolding blanks
  lines_back =
      let g : given_from 7 (selves (export_texts kbm es)) ≡ es = head_given (whole_text (pos kbm.count)) (whole_text kbm.start.0) (whole_text (last_key_of kbm)) (whole_text (middle_key_of kbm)) (whole_text kbm.root.reference.0) (text_of 3 false hz) (whole_text kbm.octave) (entry_texts es) ∙ entries_given es y.degrees in
      let z : kbm.count - length es ≡ 0 = omega (arith, y.counted) in
      rw (export_found kbm es, g, z) (append-nil es)

  -- OVER THE LANGUAGE: the export is a mapping file of that mapping with those entries exactly when the mapping comes back
  pub export_in_language : MappingText (export_text kbm es) kbm es ↔ ComesBack kbm
  export_in_language =
      let room = kbm.count in
      let all : room ≤ room = omega arith in
      let a = accepts room (export_text kbm es) kbm es in (
        λ m. (round_trip room all).0 (a.1 (m, omega (arith, y.counted))).0,
        λ c. (a.0 (comes_back room all c, lines_back)).0,
      )
