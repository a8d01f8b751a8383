-- What the searches say of a lent scale, and of the root beside it: the contracts of `finding` in one word each. Assumes nothing.
use Rattle.std.specs.Prelude.{◌&&◌, ℕ, Float}
use Rattle.base.specs.Said.{Said, and_then}
use Rattle.floats.specs.Ranges.{in_search, in_pitch}
use Rattle.sorted.specs.Lent.{ListTable, list_in}
use Rattle.scl.specs.Table.{ItemTable, items_in}
use Rattle.kbm.specs.Root.{is_root}
use Rattle.kbm.specs.declared.KbmRoot.{KbmRoot}
use Rattle.relative.specs.Scales.{tested, is_scale}
use Rattle.searching.specs.Search.{search_of}
use Rattle.searching.specs.declared.Found.{Found}
use Rattle.searching.specs.Degrees.{declared_of, ascending_of, key_of}
use Rattle.searching.specs.declared.approximation.Approximation.{Approximation}
use Rattle.finding.specs.Find.{pitch_search_of}

-- ---- by a given ratio
abbrev pub ratio_found : ℕ → ItemTable → ListTable → Float → (Found → Said Approximation) → Said Approximation
ratio_found count t l ratio answer = tested (is_scale count t l && in_search ratio) (and_then (search_of (items_in count t) (list_in count l) ratio) answer)

abbrev pub find_said : ℕ → ItemTable → ListTable → Float → Said Approximation
find_said count t l ratio = ratio_found count t l ratio (declared_of count)

abbrev pub find_sorted_said : ℕ → ItemTable → ListTable → Float → Said Approximation
find_sorted_said count t l ratio = ratio_found count t l ratio (ascending_of count)

-- ---- by a given pitch
abbrev pub pitch_found : ℕ → ItemTable → ListTable → KbmRoot → Float → (Found → Said Approximation) → Said Approximation
pitch_found count t l root pitch answer = tested (is_scale count t l && (is_root root && in_pitch pitch)) (and_then (pitch_search_of (items_in count t) (list_in count l) root pitch) answer)

abbrev pub find_pitch_said : ℕ → ItemTable → ListTable → KbmRoot → Float → Said Approximation
find_pitch_said count t l root pitch = pitch_found count t l root pitch (declared_of count)

abbrev pub find_pitch_sorted_said : ℕ → ItemTable → ListTable → KbmRoot → Float → Said Approximation
find_pitch_sorted_said count t l root pitch = pitch_found count t l root pitch (ascending_of count)

abbrev pub find_key_said : ℕ → ItemTable → ListTable → KbmRoot → Float → Said Approximation
find_key_said count t l root pitch = and_then (find_pitch_said count t l root pitch) (key_of root)
