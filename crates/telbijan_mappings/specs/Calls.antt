-- The contracts of this crate's calls: what is lent, r the result, what is left. Assumes nothing.
use Rattle.std.specs.Prelude.{◌≡◌, List, ℕ, ℤ, length, Option}
use Rattle.key.specs.Keys.{key}
use Rattle.kbm.specs.Degree.{scale_degree_of}
use Rattle.kbm.specs.Middle.{scale_degree_from_middle}
use Rattle.kbm.specs.declared.Kbm.{Kbm}
use Rattle.kbm_build.specs.Builder.{pushed, after_push, built}
use Rattle.kbm_build.specs.declared.KbmBuilder.{KbmBuilder}
use Rattle.kbm_read.specs.Reader.{read_of, after_read}
use Rattle.kbm_write.specs.Export.{export_of}
use Rattle.telbijan_answers.specs.Interface.{result, kept, field_of}
use Rattle.telbijan_answers.specs.Calls.{Stored, StoredTwo, Written}
use Rattle.telbijan_mappings.specs.Mappings.{pushing_with}

-- the degree of the key of this number, by a mapping over a lent table, is stored
abbrev pub ScaleDegreeOf : List ℤ → Kbm → ℤ → ℤ → ℕ → ℤ → Type 0
ScaleDegreeOf map kbm number old r degree = Stored (scale_degree_of kbm map (key number)) old r degree

-- the same counted from the middle key
abbrev pub ScaleDegreeFromMiddle : List ℤ → Kbm → ℤ → ℤ → ℕ → ℤ → Type 0
ScaleDegreeFromMiddle map kbm number old r degree = Stored (scale_degree_from_middle kbm map (key number)) old r degree

-- the text of a mapping is written into the lent bytes, and its length is stored
abbrev pub ExportKbm : List ℤ → Kbm → List ℕ → ℕ → ℕ → List ℕ → ℕ → Type 0
ExportKbm map kbm out size r bytes written = Written (export_of kbm map (length out)) out size r bytes written

-- one entry more at place `count` of a table of `room` places; the new count is stored
abbrev pub PushKey : (Option ℤ) → List ℤ → ℕ → ℕ → ℕ → ℕ → List ℤ → ℕ → Type 0
PushKey entry map room count old r left next =
    (r ≡ result (pushed (pushing_with room count) map)) × (left ≡ after_push (pushing_with room count) map entry)
    × (next ≡ kept (field_of (λ b. b.count) (pushed (pushing_with room count) map)) old)

-- of a builder's entries: their count and the formal octave are stored
abbrev pub BuildKbm : List ℤ → KbmBuilder → ℕ → ℤ → ℕ → ℕ → ℤ → Type 0
BuildKbm map builder size formal r entries octave =
    StoredTwo (λ k. k.count) (λ k. k.octave) (built builder map) size formal r entries octave

-- a text is read into a lent table; `old` and `new` are the seven numbers behind the pointers, as the mapping of them
abbrev pub ReadKbm : List ℕ → List ℤ → Kbm → ℕ → List ℤ → Kbm → Type 0
ReadKbm text map old r left new =
    (r ≡ result (read_of (length map) text)) × (left ≡ after_read text map) × (new ≡ kept (read_of (length map) text) old)
