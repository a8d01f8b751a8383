-- The calls of this crate that read no text refuse with detail 0: a line for each. Assumes nothing.
use Rattle.std.specs.Prelude.{Some, None, Option}
use mathlib.Core.List.{List, [], ◌∷◌}
use Prim.Native.Nat.{ℕ}
use lib.IntN.{ℤ, ◌+ℤ◌, ◌*ℤ◌}
use Rattle.key.specs.declared.PianoKey.{PianoKey}
use Rattle.pitch.specs.declared.Pitch.{Pitch}
use Rattle.kbm.specs.Degree.{degree_of_entry, degree_at, scale_degree_of}
use Rattle.kbm.specs.Middle.{at_middle, scale_degree_from_middle}
use Rattle.kbm.specs.Root.{root_of}
use Rattle.kbm.specs.declared.Kbm.{Kbm}
use Rattle.kbm.specs.declared.KbmRoot.{KbmRoot}
use Rattle.writing.specs.Fitted.{fitted, text_length}
use Rattle.kbm_write.specs.Export.{export_of}
use Rattle.kbm_build.specs.Builder.{builder_of, pushed, kbm_of, built}
use Rattle.kbm_build.specs.declared.KbmBuilder.{KbmBuilder}
use Rattle.telbijan_answers.specs.Details.{Undetailed}
use Rattle.telbijan_answers.proofs.Details.{steps, held_undetailed}

entry_undetailed : (e : (Option ℤ)) (q octave : ℤ) → Undetailed (degree_of_entry e q octave)
entry_undetailed None q octave = Undetailed.number {n = 17}
entry_undetailed (Some e) q octave = held_undetailed (e +ℤ q *ℤ octave)

at_undetailed : (d octave : ℤ) (es : List (Option ℤ)) → Undetailed (degree_at d octave es)
unfolding degree_at
at_undetailed d octave [] = Undetailed.value d
at_undetailed d octave (e ∷ es) = search entry_undetailed

pub scale_degree_of_undetailed : (kbm : Kbm) (map : List ℤ) (key : PianoKey) → Undetailed (scale_degree_of kbm map key)
unfolding scale_degree_of
scale_degree_of_undetailed kbm map key = search (steps, held_undetailed, at_undetailed)

pub scale_degree_from_middle_undetailed : (kbm : Kbm) (map : List ℤ) (key : PianoKey) → Undetailed (scale_degree_from_middle kbm map key)
scale_degree_from_middle_undetailed kbm map key = scale_degree_of_undetailed (at_middle kbm) map key

pub export_kbm_undetailed : (kbm : Kbm) (map : List ℤ) (room : ℕ) → Undetailed (text_length (export_of kbm map room))
unfolding export_of fitted
export_kbm_undetailed kbm map room = search (steps, held_undetailed) depth 12

pub kbm_root_undetailed : (k : PianoKey) (p : Pitch) (offset : ℤ) → Undetailed (root_of k p offset)
kbm_root_undetailed k p offset = search steps

pub new_kbm_undetailed : (root : KbmRoot) (map : List ℤ) → Undetailed (builder_of root map)
new_kbm_undetailed root map = search steps

pub push_key_undetailed : (b : KbmBuilder) (map : List ℤ) → Undetailed (pushed b map)
unfolding pushed
push_key_undetailed b map = search steps

octave_undetailed : (b : KbmBuilder) (o : (Option ℤ)) → Undetailed (kbm_of b o)
octave_undetailed b (Some octave) = search steps
octave_undetailed b None = search steps

pub build_kbm_undetailed : (b : KbmBuilder) (map : List ℤ) → Undetailed (built b map)
unfolding built
build_kbm_undetailed b map = search (steps, octave_undetailed)
