-- WHAT THE PITCH OF A KEY SAYS, counted from the middle key, once tables and root are usable: document 02, W1, case by case. "The asked
-- key's refusals come first, then for the reference key 11 for d, 19, 11, then 18". That the call says this and nothing else is
-- `key_sounds_from_middle` of proofs/Middle.antt. Assumes nothing.
use Rattle.std.specs.Prelude.{◌≡◌, List, ℤ, Float, Option}
use Rattle.base.specs.Numbers.{overflow, key_out_of_range, unmapped_key, reference_unmapped}
use Rattle.base.specs.Said.{Said, gives, refuses}
use Rattle.key.specs.declared.PianoKey.{PianoKey}
use Rattle.kbm.specs.Keys.{Has}
use Rattle.kbm.specs.Middle.{at_middle}
use Rattle.kbm.specs.ReferenceKey.{ReferenceHas}
use Rattle.kbm.specs.declared.Kbm.{Kbm}
use Rattle.scl.specs.declared.Item.{Item}
use Rattle.relative.specs.Pitches.{pitch_from}
use Rattle.relative.specs.Refusals.{ReachedOrBeyond}

-- what the asked key has, and what the reference key has (each with its own order: kbm/specs/Keys.antt, kbm/specs/ReferenceKey.antt)
pub data KeySoundsFromMiddle (items : List Item) (kbm : Kbm) (es : List (Option ℤ)) (key : PianoKey) (s : Said Float) : Type 0 where
  -- the asked key: 16; 11 for its d or its degree; 17
  outside : Has (at_middle kbm) es key (refuses key_out_of_range 0) → s ≡ refuses key_out_of_range 0 → KeySoundsFromMiddle items kbm es key s
  passed : Has (at_middle kbm) es key (refuses overflow 0) → s ≡ refuses overflow 0 → KeySoundsFromMiddle items kbm es key s
  unmapped : Has (at_middle kbm) es key (refuses unmapped_key 0) → s ≡ refuses unmapped_key 0 → KeySoundsFromMiddle items kbm es key s
  -- then the reference key: 11 for its d or its degree; 19
  reference_passed : (d : ℤ) → Has (at_middle kbm) es key (gives d) → ReferenceHas kbm es (refuses overflow 0) → s ≡ refuses overflow 0 →
      KeySoundsFromMiddle items kbm es key s
  reference_none : (d : ℤ) → Has (at_middle kbm) es key (gives d) → ReferenceHas kbm es (refuses reference_unmapped 0) →
      s ≡ refuses reference_unmapped 0 → KeySoundsFromMiddle items kbm es key s
  -- then the pitch, or 18
  sounds : (d root : ℤ) → Has (at_middle kbm) es key (gives d) → ReferenceHas kbm es (gives root) →
      s ≡ pitch_from items kbm.root.pitch.0 root d → ReachedOrBeyond s → KeySoundsFromMiddle items kbm es key s
