-- What the relative pitches say is a value or one of document 01's numbers, whatever the tables hold. Assumes nothing.
use mathlib.Core.Bool.{Bool}
use mathlib.Core.List.{List}
use Prim.Native.Nat.{ℕ}
use native.Mathlib.Omega.{arith}
use lib.IntN.{ℤ, pos, ◌-ℤ◌}
use lib.ListN.{get_or}
use lib.Ieee.{Float, binary64, mul, of_int, div}
use Rattle.base.specs.Integers.{in_i32, held}
use Rattle.base.specs.Said.{Said, Numbered}
use Rattle.base.proofs.Said.{numbered_pick, numbered_then}
use Rattle.pitch.proofs.Numbers.{both_numbered, computed_numbered, as_octaves_numbered, from_octaves_numbered}
use Rattle.sorting.specs.Entries.{Entry}
use Rattle.sorted.specs.Lent.{ListTable, list_in}
use Rattle.scl.specs.Items.{ratio_of}
use Rattle.scl.specs.Table.{ItemTable, no_item, items_in, is_items}
use Rattle.scl.specs.declared.Item.{Item}
use Rattle.scl.proofs.Numbers.{as_ratio_numbered}
use Rattle.scl_tables.specs.Build.{last_of, count_of}
use Rattle.kbm.specs.declared.KbmRoot.{KbmRoot}
use Rattle.relative.specs.Relative.{periods_of, place_of, stretched, relative_pitch_of, sorted_relative_pitch_of}
use Rattle.relative.specs.Scales.{no_entry, tested, is_scale}
use Rattle.relative.specs.Pitches.{root_degree, root_pitch, above, pitch_from, sorted_pitch_from, pitch_of, sorted_pitch_of}

-- ---- steps of every call on a tuning
pub tested_numbered : {A : Type 0} (test : Bool) {s : Said A} → Numbered s → Numbered (tested test s)
tested_numbered test n = numbered_pick test n (Numbered.number (omega arith) (omega arith))

pub held_numbered : (z : ℤ) → Numbered (held z)
unfolding held
held_numbered z = numbered_pick (in_i32 z) (Numbered.value z) (Numbered.number (omega arith) (omega arith))

-- ---- relative pitches
stretched_numbered : (period : Float) (periods : ℤ) (ratio : Float) → Numbered (stretched period periods ratio)
stretched_numbered period periods ratio =
    numbered_then (numbered_then (as_octaves_numbered period) (λ octaves. from_octaves_numbered (mul binary64 octaves (of_int binary64 periods)))) (λ base. both_numbered base ratio (computed_numbered (mul binary64 base ratio)))

pub relative_numbered : (items : List Item) (d : ℤ) → Numbered (relative_pitch_of items d)
unfolding relative_pitch_of
relative_numbered items d =
    numbered_then (as_ratio_numbered (last_of items)) (λ period. numbered_then (as_ratio_numbered (get_or items (place_of (count_of items) d) no_item)) (λ ratio. stretched_numbered period (periods_of (count_of items) d) ratio))

pub sorted_relative_numbered : (items : List Item) (es : List Entry) (d : ℤ) → Numbered (sorted_relative_pitch_of items es d)
unfolding sorted_relative_pitch_of
sorted_relative_numbered items es d =
    numbered_then (as_ratio_numbered (last_of items)) (λ period. stretched_numbered period (periods_of (count_of items) d) (get_or es (place_of (count_of items) d) no_entry).ratio)

-- ---- the calls
module _ (count : ℕ) (t : ItemTable) where
  pub period_numbered : Numbered (tested (is_items count t) (ratio_of (last_of (items_in count t))))
  period_numbered = tested_numbered (is_items count t) (as_ratio_numbered (last_of (items_in count t)))

  pub relative_pitch_of_numbered : (d : ℤ) → Numbered (tested (is_items count t) (relative_pitch_of (items_in count t) d))
  relative_pitch_of_numbered d = tested_numbered (is_items count t) (relative_numbered (items_in count t) d)

  pub sorted_relative_pitch_of_numbered : (l : ListTable) (d : ℤ) → Numbered (tested (is_scale count t l) (sorted_relative_pitch_of (items_in count t) (list_in count l) d))
  sorted_relative_pitch_of_numbered l d = tested_numbered (is_scale count t l) (sorted_relative_numbered (items_in count t) (list_in count l) d)

pub root_degree_numbered : (root : KbmRoot) → Numbered (root_degree root)
root_degree_numbered root = held_numbered (pos 0 -ℤ root.offset)

pub root_pitch_numbered : (items : List Item) (hz : Float) (at : ℤ) → Numbered (root_pitch items hz at)
unfolding root_pitch
root_pitch_numbered items hz at = numbered_then (relative_numbered items at) (λ ratio. both_numbered hz ratio (computed_numbered (div binary64 hz ratio)))

above_numbered : {root ratio : Said Float} → Numbered root → Numbered ratio → Numbered (above root ratio)
above_numbered n m = numbered_then n (λ hz. numbered_then m (λ ratio. both_numbered hz ratio (computed_numbered (mul binary64 hz ratio))))

pub from_numbered : (items : List Item) (hz : Float) (at d : ℤ) → Numbered (pitch_from items hz at d)
unfolding pitch_from
from_numbered items hz at d = above_numbered (root_pitch_numbered items hz at) (relative_numbered items d)

pub pitch_numbered : (items : List Item) (root : KbmRoot) (d : ℤ) → Numbered (pitch_of items root d)
unfolding pitch_of
pitch_numbered items root d = numbered_then (root_degree_numbered root) (λ at. from_numbered items root.pitch.0 at d)

pub sorted_pitch_numbered : (items : List Item) (es : List Entry) (root : KbmRoot) (d : ℤ) → Numbered (sorted_pitch_of items es root d)
unfolding sorted_pitch_of sorted_pitch_from
sorted_pitch_numbered items es root d = numbered_then (root_degree_numbered root) (λ at. above_numbered (root_pitch_numbered items root.pitch.0 at) (sorted_relative_numbered items es d))
