-- PITCHES OF KEYS COUNTED FROM THE MIDDLE KEY: document 02, W1. "The pitch is reference pitch divided by the relative pitch of the
-- reference key's own degree, times that of the key's degree"; "the asked key's refusals come first, then for the reference key 11 for d,
-- 19, 11, then 18". Assumes nothing.
use Rattle.std.specs.Prelude.{List, ℤ, Float, Option}
use Rattle.base.specs.Said.{Said, and_then}
use Rattle.key.specs.declared.PianoKey.{PianoKey}
use Rattle.kbm.specs.Degree.{degree_of}
use Rattle.kbm.specs.Middle.{at_middle, reference_degree, counted}
use Rattle.kbm.specs.Table.{table_of}
use Rattle.kbm.specs.declared.Counting.{Counting}
use Rattle.kbm.specs.declared.Counting.TheVariants.{Reference, Middle}
use Rattle.kbm.specs.declared.Kbm.{Kbm}
use Rattle.scl.specs.declared.Item.{Item}
use Rattle.relative.specs.Pitches.{root_degree, pitch_from}

-- THE PITCH of a key: its degree, then the reference key's own, then the two steps of `pitch_from`
abbrev pub maybe_pitch_from_middle : List Item → Kbm → List ℤ → PianoKey → Said Float
maybe_pitch_from_middle items kbm map key =
    and_then (degree_of (at_middle kbm) (table_of kbm.count map) key) (λ degree.
    and_then (reference_degree kbm (table_of kbm.count map)) (λ root.
    pitch_from items kbm.root.pitch.0 root degree))

-- ---- in either counting
-- the degree that sounds the root's pitch: the offset turned over, or the reference key's own
abbrev pub sounding_degree : Counting → Kbm → List (Option ℤ) → Said ℤ
sounding_degree Reference kbm es = root_degree kbm.root
sounding_degree Middle kbm es = reference_degree kbm es

-- of the old one this is `maybe_pitch_of`, of the new one `maybe_pitch_from_middle`
abbrev pub counted_pitch : Counting → List Item → Kbm → List ℤ → PianoKey → Said Float
counted_pitch counting items kbm map key =
    and_then (degree_of (counted counting kbm) (table_of kbm.count map) key) (λ degree.
    and_then (sounding_degree counting kbm (table_of kbm.count map)) (λ root.
    pitch_from items kbm.root.pitch.0 root degree))
