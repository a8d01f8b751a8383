-- What was out of reach where a pitch is refused by 18, once tables and root are usable: "E(x), -900 <= x <= 900, else 18" and "A
-- computed pitch or ratio outside 2^-900..2^900 gives 18 at that step" (document 01, "Logarithm and power"). That there is no other
-- cause is proofs/tuning/Far.antt. Assumes nothing.
use Rattle.std.specs.Prelude.{◌≡◌, false, List, ℤ, get_or, Float}
use Rattle.std.specs.Float.{binary64}
use Rattle.std.specs.Float.Ieee.{mul, div, of_int}
use Rattle.base.specs.Said.{gives}
use Rattle.floats.specs.Ranges.{in_reach}
use Rattle.explog.specs.Rules.{in_powers, log_of}
use Rattle.pitch.specs.Ratios.{repeated}
use Rattle.scl.specs.Items.{ratio_of}
use Rattle.scl.specs.Table.{no_item}
use Rattle.scl.specs.declared.Item.{Item}
use Rattle.scl_tables.specs.Build.{last_of, count_of}
use Rattle.kbm.specs.declared.KbmRoot.{KbmRoot}
use Rattle.relative.specs.Relative.{periods_of, place_of, relative_pitch_of}
use Rattle.relative.specs.Pitches.{root_degree, root_pitch}

-- so many periods, as an f64
abbrev pub times_of : List Item → ℤ → Float
times_of items d = of_int binary64 (periods_of (count_of items) d)

-- the relative pitch of a degree: the octaves of its periods leave E's domain; or their ratio times that of the item leaves 2^-900..2^900
pub data FarDegree (items : List Item) (d : ℤ) : Type 0 where
  periods : (period : Float) → ratio_of (last_of items) ≡ gives period → in_powers (mul binary64 (log_of period) (times_of items d)) ≡ false → FarDegree items d
  product : (period base ratio : Float) → ratio_of (last_of items) ≡ gives period → repeated period (times_of items d) ≡ gives base
      → ratio_of (get_or items (place_of (count_of items) d) no_item) ≡ gives ratio → in_reach (mul binary64 base ratio) ≡ false → FarDegree items d

-- a pitch: the relative pitch of the root's degree or of the degree asked for; or the reference pitch over the first, or what that is
-- times the second, leaves 2^-900..2^900
pub data FarPitch (items : List Item) (root : KbmRoot) (d : ℤ) : Type 0 where
  of_root_degree : (at : ℤ) → root_degree root ≡ gives at → FarDegree items at → FarPitch items root d
  quotient : (at : ℤ) (r : Float) → root_degree root ≡ gives at → relative_pitch_of items at ≡ gives r → in_reach (div binary64 root.pitch.0 r) ≡ false → FarPitch items root d
  degree : FarDegree items d → FarPitch items root d
  product : (at : ℤ) (hz r : Float) → root_degree root ≡ gives at → root_pitch items root.pitch.0 at ≡ gives hz → relative_pitch_of items d ≡ gives r
      → in_reach (mul binary64 hz r) ≡ false → FarPitch items root d
