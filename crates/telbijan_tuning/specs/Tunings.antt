-- What the calls for pitches say of a lent scale, and of the root or the mapping beside it: the contracts of `relative` and `tuning` in
-- one word each. Assumes nothing.
use Rattle.std.specs.Prelude.{◌&&◌, List, ℕ, ℤ, Float}
use Rattle.base.specs.Said.{Said}
use Rattle.key.specs.declared.PianoKey.{PianoKey}
use Rattle.sorted.specs.Lent.{ListTable, list_in}
use Rattle.scl.specs.Items.{ratio_of}
use Rattle.scl.specs.Table.{ItemTable, items_in, is_items}
use Rattle.scl_tables.specs.Build.{last_of}
use Rattle.kbm.specs.Root.{is_root}
use Rattle.kbm.specs.Table.{is_table}
use Rattle.kbm.specs.declared.Kbm.{Kbm}
use Rattle.kbm.specs.declared.KbmRoot.{KbmRoot}
use Rattle.relative.specs.Relative.{relative_pitch_of, sorted_relative_pitch_of}
use Rattle.relative.specs.Scales.{tested, is_scale}
use Rattle.relative.specs.Pitches.{pitch_of, sorted_pitch_of}
use Rattle.tuning.specs.Keys.{key_pitch_of, maybe_pitch_of, maybe_degree_pitch_of}
use Rattle.tuning.specs.Middle.{maybe_pitch_from_middle}

-- ---- relative pitches
abbrev pub period_said : ℕ → ItemTable → Said Float
period_said count t = tested (is_items count t) (ratio_of (last_of (items_in count t)))

abbrev pub relative_said : ℕ → ItemTable → ℤ → Said Float
relative_said count t degree = tested (is_items count t) (relative_pitch_of (items_in count t) degree)

abbrev pub sorted_relative_said : ℕ → ItemTable → ListTable → ℤ → Said Float
sorted_relative_said count t l degree = tested (is_scale count t l) (sorted_relative_pitch_of (items_in count t) (list_in count l) degree)

-- ---- pitches
abbrev pub pitch_said : ℕ → ItemTable → KbmRoot → ℤ → Said Float
pitch_said count t root degree = tested (is_items count t && is_root root) (pitch_of (items_in count t) root degree)

abbrev pub key_pitch_said : ℕ → ItemTable → KbmRoot → PianoKey → Said Float
key_pitch_said count t root key = tested (is_items count t && is_root root) (key_pitch_of (items_in count t) root key)

abbrev pub sorted_pitch_said : ℕ → ItemTable → ListTable → KbmRoot → ℤ → Said Float
sorted_pitch_said count t l root degree = tested (is_scale count t l && is_root root) (sorted_pitch_of (items_in count t) (list_in count l) root degree)

-- ---- of a mapping
abbrev pub maybe_pitch_said : ℕ → ItemTable → Kbm → List ℤ → PianoKey → Said Float
maybe_pitch_said count t kbm map key = tested (is_items count t && is_root kbm.root) (tested (is_table kbm.count map) (maybe_pitch_of (items_in count t) kbm map key))

abbrev pub maybe_degree_pitch_said : ℕ → ItemTable → Kbm → List ℤ → ℤ → Said Float
maybe_degree_pitch_said count t kbm map degree = tested (is_items count t && is_root kbm.root) (tested (is_table kbm.count map) (maybe_degree_pitch_of (items_in count t) kbm map degree))

-- counted from the middle key
abbrev pub maybe_pitch_from_middle_said : ℕ → ItemTable → Kbm → List ℤ → PianoKey → Said Float
maybe_pitch_from_middle_said count t kbm map key =
    tested (is_items count t && is_root kbm.root) (tested (is_table kbm.count map) (maybe_pitch_from_middle (items_in count t) kbm map key))
