-- A mapping as the interface for C has it: numbers beside a lent table. Assumes nothing.
use Rattle.std.specs.Prelude.{Bool, true, false, ℕ, ℤ, pos, Float, Some, None, Option}
use Rattle.key.specs.Keys.{key}
use Rattle.floats.specs.Floats.{one_f}
use Rattle.kbm.specs.declared.Kbm.{Kbm}
use Rattle.kbm.specs.declared.KbmRoot.{KbmRoot}
use Rattle.kbm_build.specs.declared.KbmBuilder.{KbmBuilder}

-- the root of its numbers
abbrev pub root_with : ℤ → Float → ℤ → KbmRoot
root_with reference pitch offset = record { reference = key reference; pitch = record { 0 = pitch }; offset = offset }

-- the mapping of its numbers
abbrev pub mapping_with : ℕ → ℤ → ℤ → ℤ → Float → ℤ → ℤ → Kbm
mapping_with count start end reference pitch offset octave =
    record { root = root_with reference pitch offset; start = key start; end = key end; octave = octave; count = count }

-- a builder of its numbers; a formal octave counts where it was given
abbrev pub octave_with : Bool → ℤ → (Option ℤ)
octave_with true octave = Some octave
octave_with false octave = None

abbrev pub builder_with : ℕ → ℕ → ℤ → ℤ → ℤ → Float → ℤ → (Option ℤ) → KbmBuilder
builder_with room count start end reference pitch offset octave =
    record { root = root_with reference pitch offset; start = key start; end = key end; octave = octave; room = room; count = count }

-- a builder that only pushes: root and range do not matter to a push
abbrev pub pushing_with : ℕ → ℕ → KbmBuilder
pushing_with room count = builder_with room count (pos 0) (pos 128) (pos 0) one_f (pos 0) None
