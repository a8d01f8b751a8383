-- What the searches say is a value or one of document 01's numbers. Assumes nothing.
use mathlib.Core.Bool.{◌&&◌}
use Prim.Native.Nat.{ℕ}
use native.Mathlib.Omega.{arith}
use lib.IntN.{ℤ, pos, ◌+ℤ◌, ◌-ℤ◌, ◌*ℤ◌}
use lib.Ieee.{Float, binary64, div}
use mathlib.Core.List.{List}
use Rattle.base.specs.Integers.{held}
use Rattle.base.specs.Said.{Said, gives, Numbered, and_then}
use Rattle.base.proofs.Said.{numbered_pick, numbered_then}
use Rattle.floats.specs.Ranges.{in_search, in_pitch}
use Rattle.pitch.proofs.Numbers.{both_numbered, computed_numbered}
use Rattle.sorting.specs.Entries.{Entry}
use Rattle.sorted.specs.Lent.{ListTable, list_in}
use Rattle.scl.specs.Table.{ItemTable, items_in}
use Rattle.scl.specs.declared.Item.{Item}
use Rattle.kbm.specs.Root.{is_root}
use Rattle.kbm.specs.declared.KbmRoot.{KbmRoot}
use Rattle.relative.specs.Scales.{tested, is_scale}
use Rattle.relative.proofs.Numbers.{tested_numbered, held_numbered, root_degree_numbered, root_pitch_numbered}
use Rattle.searching.specs.Search.{search_of}
use Rattle.searching.specs.declared.Found.{Found}
use Rattle.searching.proofs.Numbers.{search_numbered}
use Rattle.searching.specs.Degrees.{approximation, declared_of, ascending_of, key_of}
use Rattle.searching.specs.declared.approximation.Approximation.{Approximation}
use Rattle.finding.specs.Find.{pitch_search_from, pitch_search_of}

-- ---- the degree or key of what was found
number_numbered : (deviation : Float) (z : ℤ) → Numbered (and_then (held z) (λ v. gives (approximation deviation v)))
number_numbered deviation z = numbered_then (held_numbered z) (λ v. Numbered.value (approximation deviation v))

pub declared_numbered : (count : ℕ) (f : Found) → Numbered (declared_of count f)
declared_numbered count f = number_numbered f.deviation (pos f.place +ℤ (f.periods -ℤ f.wraps) *ℤ pos count)

pub ascending_numbered : (count : ℕ) (f : Found) → Numbered (ascending_of count f)
ascending_numbered count f = number_numbered f.deviation (pos f.index +ℤ f.periods *ℤ pos count)

-- ---- the search of a pitch
pitch_search_numbered : (items : List Item) (es : List Entry) (root : KbmRoot) (pitch : Float) → Numbered (pitch_search_of items es root pitch)
unfolding pitch_search_of pitch_search_from
pitch_search_numbered items es root pitch =
    numbered_then (root_degree_numbered root) (λ at.
    numbered_then (root_pitch_numbered items root.pitch.0 at) (λ hz.
    numbered_then (both_numbered hz pitch (computed_numbered (div binary64 pitch hz))) (λ ratio.
    numbered_pick (in_search ratio) (search_numbered items es ratio) (Numbered.number (omega arith) (omega arith)))))

-- ---- the calls
module _ (count : ℕ) (t : ItemTable) (l : ListTable) where
  ratio_numbered : (x : Float) {degree : Found → Said Approximation} → ((f : Found) → Numbered (degree f)) → Numbered (tested (is_scale count t l && in_search x) (and_then (search_of (items_in count t) (list_in count l) x) degree))
  ratio_numbered x n = tested_numbered (is_scale count t l && in_search x) (numbered_then (search_numbered (items_in count t) (list_in count l) x) n)

  pitch_numbered : (root : KbmRoot) (pitch : Float) {degree : Found → Said Approximation} → ((f : Found) → Numbered (degree f)) → Numbered (tested (is_scale count t l && (is_root root && in_pitch pitch)) (and_then (pitch_search_of (items_in count t) (list_in count l) root pitch) degree))
  pitch_numbered root pitch n = tested_numbered (is_scale count t l && (is_root root && in_pitch pitch)) (numbered_then (pitch_search_numbered (items_in count t) (list_in count l) root pitch) n)

  pub find_by_relative_pitch_numbered : (x : Float) → Numbered (tested (is_scale count t l && in_search x) (and_then (search_of (items_in count t) (list_in count l) x) (declared_of count)))
  find_by_relative_pitch_numbered x = ratio_numbered x (declared_numbered count)

  pub find_by_relative_pitch_sorted_numbered : (x : Float) → Numbered (tested (is_scale count t l && in_search x) (and_then (search_of (items_in count t) (list_in count l) x) (ascending_of count)))
  find_by_relative_pitch_sorted_numbered x = ratio_numbered x (ascending_numbered count)

  pub find_by_pitch_numbered : (root : KbmRoot) (pitch : Float) → Numbered (tested (is_scale count t l && (is_root root && in_pitch pitch)) (and_then (pitch_search_of (items_in count t) (list_in count l) root pitch) (declared_of count)))
  find_by_pitch_numbered root pitch = pitch_numbered root pitch (declared_numbered count)

  pub find_by_pitch_sorted_numbered : (root : KbmRoot) (pitch : Float) → Numbered (tested (is_scale count t l && (is_root root && in_pitch pitch)) (and_then (pitch_search_of (items_in count t) (list_in count l) root pitch) (ascending_of count)))
  find_by_pitch_sorted_numbered root pitch = pitch_numbered root pitch (ascending_numbered count)

  pub find_key_by_pitch_numbered : (root : KbmRoot) (pitch : Float) → Numbered (and_then (tested (is_scale count t l && (is_root root && in_pitch pitch)) (and_then (pitch_search_of (items_in count t) (list_in count l) root pitch) (declared_of count))) (key_of root))
  find_key_by_pitch_numbered root pitch = numbered_then (find_by_pitch_numbered root pitch) (λ a. number_numbered a.deviation (root.reference.0 +ℤ a.approx_value))
