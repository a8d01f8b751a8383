-- Relative pitches of degrees: the Rust's `relative_pitch_of` and `sorted_relative_pitch_of`, step by step; "A computed pitch or
-- ratio outside 2^-900..2^900 gives 18 at that step" (document 01). A scale without items is its place 0. Assumes nothing.
use Rattle.std.specs.Prelude.{List, ℕ, eqb, ℤ, pos, get_or, Float}
use Rattle.std.specs.Float.{binary64}
use Rattle.std.specs.Float.Ieee.{of_int}
use Rattle.base.specs.Integers.{floor_div, floor_mod}
use Rattle.base.specs.Said.{Said, pick, and_then}
use Rattle.pitch.specs.Ratios.{repeated, stretched_by}
use Rattle.sorting.specs.Entries.{Entry}
use Rattle.scl.specs.Items.{ratio_of}
use Rattle.scl.specs.Table.{no_item}
use Rattle.scl.specs.declared.Item.{Item}
use Rattle.scl_tables.specs.Build.{last_of, count_of}
use Rattle.relative.specs.Scales.{no_entry}

-- `num_periods_and_pitch_index_for_degree`: both 0 with no items, else `i32_dr_u(degree, num_items)`
unfoldable pub periods_of : ℕ → ℤ → ℤ
periods_of count degree = pick (eqb count 0) (pos 0) (floor_div degree count)

unfoldable pub place_of : ℕ → ℤ → ℕ
place_of count degree = pick (eqb count 0) 0 (floor_mod degree count)

-- `period.repeated(num_periods).stretched_by(ratio)`
abbrev pub stretched : Float → ℤ → Float → Said Float
stretched period periods ratio = and_then (repeated period (of_int binary64 periods)) (λ base. stretched_by base ratio)

-- of the item at its place
unfoldable pub relative_pitch_of : List Item → ℤ → Said Float
relative_pitch_of items degree =
    and_then (ratio_of (last_of items)) (λ period.
    and_then (ratio_of (get_or items (place_of (count_of items) degree) no_item)) (λ ratio.
    stretched period (periods_of (count_of items) degree) ratio))

-- of the entry at its place in the sorted list
unfoldable pub sorted_relative_pitch_of : List Item → List Entry → ℤ → Said Float
sorted_relative_pitch_of items es degree =
    and_then (ratio_of (last_of items)) (λ period.
    stretched period (periods_of (count_of items) degree) (get_or es (place_of (count_of items) degree) no_entry).ratio)
