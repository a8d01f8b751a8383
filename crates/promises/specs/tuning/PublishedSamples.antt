-- SAMPLES OF THE REFERENCE KEY, counted from the middle key (document 02, W1): one that sounds its frequency exactly, which it does not by
-- document 01's counting; one that rounding leaves just below it; and document 01's own mapping, whose reference key sounds no degree with
-- middle key 62. Assumes nothing.
use Rattle.std.specs.Prelude.{◌≡◌, false, List, [], ◌∷◌, ℤ, pos, negsuc, Float, Some}
use Rattle.std.specs.Float.{fin}
use Rattle.base.specs.Numbers.{reference_unmapped}
use Rattle.base.specs.Said.{gives, refuses}
use Rattle.key.specs.Keys.{key}
use Rattle.pitch.specs.declared.Pitch.{Pitch}
use Rattle.scl.specs.Table.{implicit}
use Rattle.scl.specs.declared.Item.{Item}
use Rattle.scl.specs.declared.Item.TheVariants.{Fraction}
use Rattle.kbm.specs.MiddleSamples.{mapping}
use Rattle.kbm.specs.Samples.{sample, sample_table}
use Rattle.kbm.specs.Table.{table_of}
use Rattle.kbm.specs.declared.Kbm.{Kbm}
use Rattle.kbm_write.specs.Published as P
use Rattle.tuning.specs.Keys.{maybe_pitch_of}
use Rattle.tuning.specs.Middle.{maybe_pitch_from_middle}
use Rattle.promises.specs.tuning.Published.{ReferenceSounds, ReferenceSilent}
use Rattle.promises.specs.tuning.Samples.{three}

-- 440 Hz
abbrev pub concert : Float
concert = fin false 55 (pos 3)

-- ---- items 9/8, 5/4 and 2/1; entries 0 1 2, octave 3, keys 0 to 127, middle key 62, reference key 69
abbrev pub exact_kbm : Kbm
exact_kbm = mapping (record { 0 = concert }) (pos 0) (pos 128) (pos 69) (negsuc 6) (pos 3) 3

abbrev pub exact_table : List ℤ
exact_table = pos 0 ∷ pos 1 ∷ pos 2 ∷ []

-- ---- items 7/5 and 2/1; entries 0 1, octave 2, keys 0 to 127, middle key 60, reference key 61
abbrev pub seven : List Item
seven = implicit ∷ Fraction 7 (Some 5) ∷ Fraction 2 (Some 1) ∷ []

abbrev pub rounded_kbm : Kbm
rounded_kbm = mapping (record { 0 = concert }) (pos 0) (pos 128) (pos 61) (negsuc 0) (pos 2) 2

abbrev pub rounded_table : List ℤ
rounded_table = pos 0 ∷ pos 1 ∷ []

-- 439.99999999999994, and 97.77777777777777
abbrev pub just_below : Float
just_below = fin false 7740561859543039 (negsuc 43)

abbrev pub by_reference : Float
by_reference = fin false 1720124857676231 (negsuc 43)

pub record ReferenceSamples (pitch : Pitch) : Type 0 where
  -- key 69 is two formal octaves and an entry above the middle key: degree 7, and it sounds 440 Hz
  pub exact_degree : ReferenceSounds (P.published_of exact_kbm (table_of 3 exact_table)) (pos 7)
  pub exact : maybe_pitch_from_middle three exact_kbm exact_table (key (pos 69)) ≡ gives concert
  -- by 01 it has degree 0, and the degree 7 sounds 440 Hz
  pub counted_by_reference : maybe_pitch_of three exact_kbm exact_table (key (pos 69)) ≡ gives by_reference
  -- key 61 is an entry above the middle key: degree 1, and 440 / 1.4 * 1.4 is not 440
  pub rounded_degree : ReferenceSounds (P.published_of rounded_kbm (table_of 2 rounded_table)) (pos 1)
  pub rounded : maybe_pitch_from_middle seven rounded_kbm rounded_table (key (pos 61)) ≡ gives just_below
  -- entries 0, x, 2, octave 5, reference key 60, middle key 62: key 62 has degree 0, and nothing sounds the pitch
  pub silent_degree : ReferenceSilent (P.published_of (sample pitch (pos 2)) (table_of 3 sample_table))
  pub silent : maybe_pitch_from_middle three (sample pitch (pos 2)) sample_table (key (pos 62)) ≡ refuses reference_unmapped 0
