-- SAMPLES OF THE SEARCHES THAT THE CALLS ANSWER WITH, on lent columns: they tell the calls apart whose answers are easily exchanged, the
-- declared degree, the ascending one and the key. The scale of -300. and -1200. cents, a period below 1, at the ratio 0.9 and at 396 Hz
-- over a root of 440 Hz at key 69. Assumes nothing.
use Rattle.std.specs.Prelude.{◌≡◌, true, false, [], ◌∷◌, ℤ, pos, negsuc}
use Rattle.std.specs.Float.{fin, binary64}
use Rattle.std.specs.Float.Ieee.{round}
use Rattle.base.specs.Said.{Said, gives}
use Rattle.floats.specs.Floats.{zero_f}
use Rattle.kbm.specs.declared.KbmRoot.{KbmRoot}
use Rattle.scl.specs.Table.{ItemTable, item_table}
use Rattle.searching.specs.Degrees.{approximation}
use Rattle.searching.specs.declared.approximation.Approximation.{Approximation}
use Rattle.sorted.specs.Lent.{ListTable, list_table}
use Rattle.telbijan_mappings.specs.Mappings.{root_with}
use Rattle.telbijan_tuning.specs.Searches.{find_said, find_sorted_said, find_pitch_said, find_pitch_sorted_said, find_key_said}

-- place 0, -300. and -1200. cents
abbrev pub downward_items : ItemTable
downward_items =
    item_table (0 ∷ 0 ∷ 0 ∷ []) (zero_f ∷ fin true 75 (pos 2) ∷ fin true 75 (pos 4) ∷ []) (0 ∷ 0 ∷ 0 ∷ []) (0 ∷ 0 ∷ 0 ∷ [])

-- (2, 1.0, 1) (1, 1.6817928305074288, 1) (0, 2.0, 1)
abbrev pub downward_columns : ListTable
downward_columns =
    list_table (2 ∷ 1 ∷ 0 ∷ []) (fin false 1 (pos 0) ∷ fin false 1893530391196907 (negsuc 49) ∷ fin false 1 (pos 1) ∷ [])
    (pos 1 ∷ pos 1 ∷ pos 1 ∷ [])

-- key 69 at 440 Hz
abbrev pub concert_root : KbmRoot
concert_root = root_with (pos 69) (fin false 55 (pos 3)) (pos 0)

-- a number, and the deviation 1.070286403502449 from it
abbrev pub answered : ℤ → Said Approximation
answered n = gives (approximation (fin false 2410070723996669 (negsuc 50)) n)

pub record SearchSamples : Type 0 where
  pub by_ratio : find_said 2 downward_items downward_columns (round binary64 false 9 10) ≡ answered (pos 1)
  pub by_ratio_ascending : find_sorted_said 2 downward_items downward_columns (round binary64 false 9 10) ≡ answered (pos 3)
  pub by_pitch : find_pitch_said 2 downward_items downward_columns concert_root (fin false 99 (pos 2)) ≡ answered (pos 1)
  pub by_pitch_ascending : find_pitch_sorted_said 2 downward_items downward_columns concert_root (fin false 99 (pos 2)) ≡ answered (pos 3)
  pub key : find_key_said 2 downward_items downward_columns concert_root (fin false 99 (pos 2)) ≡ answered (pos 70)
