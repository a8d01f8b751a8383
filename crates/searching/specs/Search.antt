-- THE search: the Rust's `find_by_relative_pitch_internal`; "A search answers the degree together with its deviation, a ratio. Its
-- start is the first entry not below the target" (document 01, "Scales and searches"). Assumes nothing.
use Rattle.std.specs.Prelude.{Bool, true, false, ◌&&◌, List, ℕ, ◌-◌, eqb, ltb, ℤ, pos, length, get_or, Float}
use Rattle.std.specs.Float.{binary64}
use Rattle.std.specs.Float.Ieee.{eq, lt, of_bits}
use Rattle.base.specs.Numbers.{beyond_reach}
use Rattle.base.specs.Said.{Said, gives, refuses, pick, and_then}
use Rattle.floats.specs.Floats.{zero_f}
use Rattle.explog.specs.Rules.{L}
use Rattle.pitch.specs.Ratios.{stretched_by, deviation_from, inverse}
use Rattle.sorting.specs.Entries.{Entry}
use Rattle.sorted.specs.Lent.{ratios_of, first_not_below}
use Rattle.scl.specs.Items.{ratio_of}
use Rattle.scl.specs.declared.Item.{Item}
use Rattle.scl_tables.specs.Reduce.{reduced_by}
use Rattle.scl_tables.specs.Build.{last_of, count_of}
use Rattle.relative.specs.Scales.{no_entry}
use Rattle.searching.specs.declared.Choice.{Choice}
use Rattle.searching.specs.declared.Found.{Found}

-- ---- of two neighbours
-- "the 0.999999 tolerance": `Ratio::from_float(0.999999)`
abbrev pub tolerance : Float
tolerance = of_bits binary64 0x3fef_fffd_e721_0be9

abbrev pub choice : Bool → Float → Choice
choice upper deviation = record { upper = upper; deviation = deviation }

-- the lower neighbour with its deviation, or the upper one with its own turned over: "Prefer positive (i.e. lower) deviation if
-- both deviations are equal within some tolerance interval"
unfoldable pub chosen_of : Float → Float → Float → Said Choice
chosen_of lower upper target =
    and_then (deviation_from upper target) (λ up.
    and_then (deviation_from target lower) (λ down.
    and_then (stretched_by down tolerance) (λ bound.
    pick (lt bound up) (gives (choice false down)) (and_then (inverse up) (λ turned. gives (choice true turned))))))

-- ---- in a sorted list
-- `.max(1).min(len - 1)`
abbrev pub clamped : ℕ → ℕ → ℕ
clamped last n = pick (eqb n 0) 1 (pick (ltb last n) last n)

-- the upper neighbour's place in the list: "the first entry not below the target"
abbrev pub upper_of : List Entry → Float → ℕ
upper_of es target = clamped (length es - 1) (first_not_below (ratios_of es) target)

-- the chosen neighbour's
abbrev pub index_of : ℕ → Bool → ℕ
index_of at upper = pick upper at (at - 1)

-- an entry of the list, so many periods up, and the deviation from it
abbrev pub found_at : Entry → ℕ → ℤ → Float → Found
found_at e index periods deviation = record { place = e.place; wraps = e.wraps; index = index; periods = periods; deviation = deviation }

abbrev pub nearest_at : List Entry → ℤ → Float → ℕ → Said Found
nearest_at es periods target at =
    and_then (chosen_of (get_or es (at - 1) no_entry).ratio (get_or es at no_entry).ratio target) (λ c.
    gives (found_at (get_or es (index_of at c.upper) no_entry) (index_of at c.upper) periods c.deviation))

unfoldable pub nearest_of : List Entry → ℤ → Float → Said Found
nearest_of es periods target = nearest_at es periods target (upper_of es target)

-- ---- in a scale
-- "A scale without items answers degree 0 with the ratio itself. A search in a scale of one item with L(period) = 0 gives 18"
unfoldable pub search_of : List Item → List Entry → Float → Said Found
search_of items es ratio =
    pick (eqb (count_of items) 0)
    (gives (found_at (get_or es 0 no_entry) 0 (pos 0) ratio))
    (and_then (ratio_of (last_of items)) (λ period.
    and_then (L period) (λ size.
    pick (eqb (count_of items) 1 && eq size zero_f) (refuses beyond_reach 0)
    (and_then (reduced_by period ratio) (λ x. nearest_of es x.wraps x.ratio)))))
