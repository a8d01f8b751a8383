-- For each input, refused ones too, a function of the interface has one possible result, and each value behind a pointer and each
-- lent part of memory one possible state after it: document 01, "What the contracts settle". A line for each. Assumes nothing.
use Rattle.std.specs.Prelude.{Some, None}
use mathlib.Core.Bool.{Bool}
use mathlib.Core.List.{List}
use Prim.Native.Nat.{ℕ}
use lib.IntN.{ℤ}
use lib.ListN.{length}
use lib.Ieee.{Float}
use Rattle.base.specs.Said.{One}
use Rattle.base.proofs.Said.{one_result}
use Rattle.base.specs.Tables.{after}
use Rattle.key.specs.Keys.{key}
use Rattle.kbm.specs.Degree.{scale_degree_of}
use Rattle.kbm.specs.Middle.{scale_degree_from_middle}
use Rattle.kbm.specs.Root.{root_of}
use Rattle.kbm.specs.declared.Kbm.{Kbm}
use Rattle.kbm_build.specs.Builder.{pushed, after_push, built}
use Rattle.kbm_read.specs.Reader.{read_of, after_read}
use Rattle.writing.specs.Fitted.{text_length}
use Rattle.kbm_write.specs.Export.{export_of}
use Rattle.telbijan_answers.specs.Interface.{result, kept, field_of}
use Rattle.telbijan_mappings.specs.Mappings.{root_with, mapping_with, octave_with, builder_with, pushing_with}

pub root_with_one : (reference : ℤ) (hz : Float) (offset : ℤ) → One (λ r. r) (root_with reference hz offset)
root_with_one reference hz offset = one_result (root_with reference hz offset)

pub mapping_with_one : (count : ℕ) (start : ℤ) (end : ℤ) (reference : ℤ) (hz : Float) (offset : ℤ) (octave : ℤ) → One (λ r. r) (mapping_with count start end reference hz offset octave)
mapping_with_one count start end reference hz offset octave = one_result (mapping_with count start end reference hz offset octave)

pub scale_degree_of_one : (map : List ℤ) (count : ℕ) (start : ℤ) (end : ℤ) (reference : ℤ) (hz : Float) (offset : ℤ) (octave : ℤ) (number : ℤ) (degree : ℤ) → One (λ r. r) (result (scale_degree_of (mapping_with count start end reference hz offset octave) map (key number))) × One (λ r. r) (kept (scale_degree_of (mapping_with count start end reference hz offset octave) map (key number)) degree)
scale_degree_of_one map count start end reference hz offset octave number degree = (one_result (result (scale_degree_of (mapping_with count start end reference hz offset octave) map (key number))), one_result (kept (scale_degree_of (mapping_with count start end reference hz offset octave) map (key number)) degree))

pub scale_degree_from_middle_one : (map : List ℤ) (count : ℕ) (start : ℤ) (end : ℤ) (reference : ℤ) (hz : Float) (offset : ℤ) (octave : ℤ)
    (number : ℤ) (degree : ℤ) →
    One (λ r. r) (result (scale_degree_from_middle (mapping_with count start end reference hz offset octave) map (key number)))
    × One (λ r. r) (kept (scale_degree_from_middle (mapping_with count start end reference hz offset octave) map (key number)) degree)
scale_degree_from_middle_one map count start end reference hz offset octave number degree =
    let said = scale_degree_from_middle (mapping_with count start end reference hz offset octave) map (key number) in
    (one_result (result said), one_result (kept said degree))

pub export_kbm_one : (map : List ℤ) (count : ℕ) (start : ℤ) (end : ℤ) (reference : ℤ) (hz : Float) (offset : ℤ) (octave : ℤ) (out : List ℕ) (written : ℕ) → One (λ r. r) (result (text_length (export_of (mapping_with count start end reference hz offset octave) map (length out)))) × (One (λ r. r) (after (export_of (mapping_with count start end reference hz offset octave) map (length out)) (λ t. t) out) × One (λ r. r) (kept (text_length (export_of (mapping_with count start end reference hz offset octave) map (length out))) written))
export_kbm_one map count start end reference hz offset octave out written = (one_result (result (text_length (export_of (mapping_with count start end reference hz offset octave) map (length out)))), (one_result (after (export_of (mapping_with count start end reference hz offset octave) map (length out)) (λ t. t) out), one_result (kept (text_length (export_of (mapping_with count start end reference hz offset octave) map (length out))) written)))

pub kbm_root_one : (reference : ℤ) (hz : Float) (offset : ℤ) → One (λ r. r) (result (root_of (key reference) (record { 0 = hz }) offset))
kbm_root_one reference hz offset = one_result (result (root_of (key reference) (record { 0 = hz }) offset))

pub push_mapped_key_one : (map : List ℤ) (room : ℕ) (count : ℕ) (degree : ℤ) (after : ℕ) → One (λ r. r) (result (pushed (pushing_with room count) map)) × (One (λ r. r) (after_push (pushing_with room count) map (Some degree)) × One (λ r. r) (kept (field_of (λ b. b.count) (pushed (pushing_with room count) map)) after))
push_mapped_key_one map room count degree after = (one_result (result (pushed (pushing_with room count) map)), (one_result (after_push (pushing_with room count) map (Some degree)), one_result (kept (field_of (λ b. b.count) (pushed (pushing_with room count) map)) after)))

pub push_unmapped_key_one : (map : List ℤ) (room : ℕ) (count : ℕ) (after : ℕ) → One (λ r. r) (result (pushed (pushing_with room count) map)) × (One (λ r. r) (after_push (pushing_with room count) map None) × One (λ r. r) (kept (field_of (λ b. b.count) (pushed (pushing_with room count) map)) after))
push_unmapped_key_one map room count after = (one_result (result (pushed (pushing_with room count) map)), (one_result (after_push (pushing_with room count) map None), one_result (kept (field_of (λ b. b.count) (pushed (pushing_with room count) map)) after)))

pub build_kbm_one : (map : List ℤ) (room : ℕ) (count : ℕ) (start : ℤ) (end : ℤ) (reference : ℤ) (hz : Float) (offset : ℤ) (given : Bool) (octave : ℤ) (entries : ℕ) (formal : ℤ) → One (λ r. r) (result (built (builder_with room count start end reference hz offset (octave_with given octave)) map)) × (One (λ r. r) (kept (field_of (λ k. k.count) (built (builder_with room count start end reference hz offset (octave_with given octave)) map)) entries) × One (λ r. r) (kept (field_of (λ k. k.octave) (built (builder_with room count start end reference hz offset (octave_with given octave)) map)) formal))
build_kbm_one map room count start end reference hz offset given octave entries formal = (one_result (result (built (builder_with room count start end reference hz offset (octave_with given octave)) map)), (one_result (kept (field_of (λ k. k.count) (built (builder_with room count start end reference hz offset (octave_with given octave)) map)) entries), one_result (kept (field_of (λ k. k.octave) (built (builder_with room count start end reference hz offset (octave_with given octave)) map)) formal)))

pub read_kbm_one : (text : List ℕ) (map : List ℤ) (old : Kbm) →
    One (λ r. r) (result (read_of (length map) text)) × One (λ r. r) (after_read text map)
    × One (λ r. r) (kept (read_of (length map) text) old)
read_kbm_one text map old =
    (one_result (result (read_of (length map) text)), one_result (after_read text map), one_result (kept (read_of (length map) text) old))
