-- Where a tuning is anchored: document 01, "What is taken", 5: "A root gives 10 by the pitch limits", and "Pitch is usable from
-- 2^-10 to 2^20 Hz, else 10". Assumes nothing.
use Rattle.std.specs.Prelude.{Bool, ℤ}
use Rattle.base.specs.Numbers.{unusable}
use Rattle.base.specs.Said.{Said, gives, refuses, pick}
use Rattle.floats.specs.Ranges.{in_pitch}
use Rattle.key.specs.declared.PianoKey.{PianoKey}
use Rattle.pitch.specs.declared.Pitch.{Pitch}
use Rattle.kbm.specs.declared.KbmRoot.{KbmRoot}

-- the root of a reference key, its pitch, and the steps from it up to the middle key
abbrev pub root_of : PianoKey → Pitch → ℤ → Said KbmRoot
root_of reference pitch offset = pick (in_pitch pitch.0) (gives (record { reference = reference; pitch = pitch; offset = offset })) (refuses unusable 0)

-- the pitch of a root lies within the limits
abbrev pub is_root : KbmRoot → Bool
is_root root = in_pitch root.pitch.0
