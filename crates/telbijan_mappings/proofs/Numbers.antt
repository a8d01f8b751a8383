-- What the functions of this crate say is a value or one of document 01's numbers, and of a read and a build also 25, so a result is 0
-- exactly where a value is stored (`zero_accepted` of telbijan_answers). Assumes nothing.
use Rattle.std.specs.Prelude.{Some, None, Option}
use mathlib.Core.Bool.{◌&&◌}
use mathlib.Core.List.{List, [], ◌∷◌}
use Prim.Native.Nat.{ℕ}
use native.Mathlib.Omega.{arith}
use lib.Dec.{leb, ltb, lit≤}
use lib.IntN.{ℤ, pos, ◌+ℤ◌, ◌-ℤ◌, ◌*ℤ◌}
use lib.ListN.{length, get_or}
use Rattle.base.specs.Integers.{floor_div, floor_mod, in_i32, held}
use Rattle.base.specs.Numbers.{backwards_range}
use Rattle.base.specs.Said.{Numbered, NumberedOr}
use Rattle.base.proofs.Said.{numbered_pick, numbered_then, or_pick}
use Rattle.floats.specs.Ranges.{in_pitch}
use Rattle.key.specs.declared.PianoKey.{PianoKey}
use Rattle.pitch.specs.declared.Pitch.{Pitch}
use Rattle.kbm.specs.Degree.{degree_of_entry, degree_at, in_range, scale_degree_of}
use Rattle.kbm.specs.Middle.{at_middle, scale_degree_from_middle}
use Rattle.kbm.specs.Root.{root_of}
use Rattle.kbm.specs.Table.{is_table, table_of}
use Rattle.kbm.specs.declared.Kbm.{Kbm}
use Rattle.writing.specs.Fitted.{fitted, text_length}
use Rattle.kbm_write.specs.Export.{last_key_of, middle_key_of, export_text, export_of}
use Rattle.kbm_build.specs.Builder.{fits_table, pushed, is_ready, is_backwards, kbm_with, kbm_of, built, with_one_more}
use Rattle.kbm_build.specs.declared.KbmBuilder.{KbmBuilder}
use Rattle.kbm_read.specs.Reader.{read_of}
use Rattle.kbm_read.proofs.Numbers.{read_kbm_numbered}
use Rattle.telbijan_answers.specs.Interface.{Coded}
use Rattle.telbijan_answers.proofs.Interface.{coded_or}

held_numbered : (z : ℤ) → Numbered (held z)
unfolding held
held_numbered z = numbered_pick (in_i32 z) (Numbered.value z) (Numbered.number (omega arith) (omega arith))

-- ---- degrees
entry_numbered : (e : (Option ℤ)) (q octave : ℤ) → Numbered (degree_of_entry e q octave)
entry_numbered None q octave = Numbered.number {n = 17} (omega arith) (omega arith)
entry_numbered (Some e) q octave = held_numbered (e +ℤ q *ℤ octave)

at_numbered : (d octave : ℤ) (es : List (Option ℤ)) → Numbered (degree_at d octave es)
unfolding degree_at
at_numbered d octave [] = Numbered.value d
at_numbered d octave (e ∷ es) = entry_numbered (get_or (e ∷ es) (floor_mod d (length (e ∷ es))) None) (floor_div d (length (e ∷ es))) octave

pub scale_degree_of_numbered : (kbm : Kbm) (map : List ℤ) (key : PianoKey) → Numbered (scale_degree_of kbm map key)
unfolding scale_degree_of
scale_degree_of_numbered kbm map key =
    numbered_pick (is_table kbm.count map)
    (numbered_pick (in_range kbm.start kbm.end key)
    (numbered_then (held_numbered (key.0 -ℤ kbm.root.reference.0)) (λ d. at_numbered d kbm.octave (table_of kbm.count map)))
    (Numbered.number (omega arith) (omega arith)))
    (Numbered.number (omega arith) (omega arith))

pub scale_degree_from_middle_numbered : (kbm : Kbm) (map : List ℤ) (key : PianoKey) → Numbered (scale_degree_from_middle kbm map key)
scale_degree_from_middle_numbered kbm map key = scale_degree_of_numbered (at_middle kbm) map key

-- ---- the export
pub export_kbm_numbered : (kbm : Kbm) (map : List ℤ) (room : ℕ) → Numbered (text_length (export_of kbm map room))
unfolding export_of fitted
export_kbm_numbered kbm map room =
    numbered_then
    (numbered_pick (is_table kbm.count map && in_pitch kbm.root.pitch.0)
    (numbered_then (held_numbered (last_key_of kbm)) (λ last. numbered_then (held_numbered (middle_key_of kbm)) (λ middle. numbered_pick (leb (length (export_text kbm (table_of kbm.count map))) room) (Numbered.value _) (Numbered.number (omega arith) (omega arith)))))
    (Numbered.number (omega arith) (omega arith)))
    (λ t. Numbered.value (length t))

-- ---- the builder
pub kbm_root_numbered : (k : PianoKey) (p : Pitch) (offset : ℤ) → Numbered (root_of k p offset)
kbm_root_numbered k p offset = numbered_pick (in_pitch p.0) (Numbered.value _) (Numbered.number (omega arith) (omega arith))

pub pushed_numbered : (b : KbmBuilder) (map : List ℤ) → Numbered (pushed b map)
unfolding pushed
pushed_numbered b map = numbered_pick (fits_table b map) (numbered_pick (ltb b.count b.room) (Numbered.value (with_one_more b)) (Numbered.number (omega arith) (omega arith))) (Numbered.number (omega arith) (omega arith))

-- ---- what a mapping is made by: 25 too
with_numbered : (b : KbmBuilder) (octave : ℤ) → NumberedOr backwards_range (kbm_with b octave)
with_numbered b octave =
    or_pick (is_backwards b.start b.end) NumberedOr.other
    (NumberedOr.known (numbered_pick (leb b.count 65535) (Numbered.value _) (Numbered.number (omega arith) (omega arith))))

of_numbered : (b : KbmBuilder) (o : (Option ℤ)) → NumberedOr backwards_range (kbm_of b o)
of_numbered b (Some octave) = with_numbered b octave
of_numbered b None = or_pick (ltb 0 b.count) (NumberedOr.known (Numbered.number (omega arith) (omega arith))) (with_numbered b (pos 0))

pub build_kbm_numbered : (b : KbmBuilder) (map : List ℤ) → NumberedOr backwards_range (built b map)
unfolding built
build_kbm_numbered b map =
    or_pick (is_ready b map) (of_numbered b b.octave) (NumberedOr.known (Numbered.number (omega arith) (omega arith)))

pub build_kbm_coded : (b : KbmBuilder) (map : List ℤ) → Coded (built b map)
build_kbm_coded b map = coded_or (lit≤ tt) (lit≤ tt) (build_kbm_numbered b map)

pub read_kbm_coded : (room : ℕ) (text : List ℕ) → Coded (read_of room text)
read_kbm_coded room text = coded_or (lit≤ tt) (lit≤ tt) (read_kbm_numbered room text)
