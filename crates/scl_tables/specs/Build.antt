-- The sorted list of a scale: "Reduction, override of the period's entry, stable order, the repeat rule [..] are as in mod.rs"
-- (document 01, "Scales and searches"): the Rust's `build_with_description`, step by step, over plain lists. Assumes nothing.
use Rattle.std.specs.Prelude.{Bool, true, false, ◌&&◌, List, [], ◌∷◌, ℕ, suc, ◌-◌, leb, ℤ, pos, length, get_or, set, Float}
use Rattle.std.specs.Float.Ieee.{le, eq}
use Rattle.base.specs.Numbers.{too_large, beyond_reach}
use Rattle.base.specs.Said.{Said, gives, refuses, pick, and_then}
use Rattle.base.specs.Tables.{over}
use Rattle.floats.specs.Floats.{zero_f, one_f}
use Rattle.explog.specs.Rules.{L}
use Rattle.pitch.specs.Ratios.{inverse}
use Rattle.sorting.specs.Entries.{Entry}
use Rattle.sorted.specs.Lent.{ListTable, places_of, ratios_of, wraps_of}
use Rattle.sorted.specs.Repeats.{arranged}
use Rattle.scl.specs.Items.{ratio_of}
use Rattle.scl.specs.Table.{no_item}
use Rattle.scl.specs.declared.Item.{Item}
use Rattle.scl_tables.specs.Reduce.{reduced_by}

abbrev pub entry : ℕ → Float → ℤ → Entry
entry place ratio wraps = record { place = place; ratio = ratio; wraps = wraps }

-- the item of a place, reduced by the period
abbrev pub reduced_entry : Float → ℕ → Item → Said Entry
reduced_entry period place item = and_then (ratio_of item) (λ ratio. and_then (reduced_by period ratio) (λ x. gives (entry place x.ratio x.wraps)))

-- `iter().enumerate().map(..)`, from place k on
abbrev pub entries_from : Float → ℕ → List Item → Said (List Entry)
entries_from period k [] = gives []
entries_from period k (i ∷ is) = and_then (reduced_entry period k i) (λ e. and_then (entries_from period (suc k) is) (λ es. gives (e ∷ es)))

-- "override of the period's entry": the last one is the period itself; for a period below 1 place 0 is the period turned over
abbrev pub overridden : Float → List Entry → Said (List Entry)
overridden period es =
    pick (le one_f period)
    (gives (set es (length es - 1) (entry (length es - 1) period (pos 0))))
    (and_then (inverse period) (λ turned. gives (set es 0 (entry 0 turned (pos 1)))))

-- the last item is the period
abbrev pub last_of : List Item → Item
last_of items = get_or items (length items - 1) no_item

-- the sorted list of a scale, place 0 among its items
unfoldable pub sorted_of : List Item → Said (List Entry)
sorted_of items =
    and_then (ratio_of (last_of items)) (λ period.
    and_then (entries_from period 0 items) (λ es.
    and_then (overridden period es) (λ fs. gives (arranged fs))))

-- how many items these are: place 0 is no item
abbrev pub count_of : List Item → ℕ
count_of items = length items - 1

-- "Reading or building a scale of two or more items gives 18 [..] exactly when L(period) = 0, a wraparound count leaves i32, or
-- reduction computes a ratio outside 2^-900..2^900; a scale of one item never does"
unfoldable pub scale_of : List Item → Said (List Entry)
scale_of items =
    and_then (ratio_of (last_of items)) (λ period.
    and_then (L period) (λ size.
    pick (leb 2 (count_of items) && eq size zero_f) (refuses beyond_reach 0) (sorted_of items)))

-- 13 over 65,535 items, then 18
abbrev pub sized_of : List Item → Said (List Entry)
sized_of items = pick (leb (count_of items) 65535) (scale_of items) (refuses too_large 0)

-- ---- what the code looks at
-- the octaves are said, and are 0
abbrev pub is_none : Said Float → Bool
is_none (gives octaves) = eq octaves zero_f
is_none (refuses number detail) = false

-- a scale of so many items, with this one as the last, is beyond reach
unfoldable pub is_beyond : ℕ → Item → Bool
is_beyond count last = leb 2 count && is_none (and_then (ratio_of last) L)

-- a value is said, no refusal
abbrev pub is_given : {A : Type 0} → Said A → Bool
is_given (gives a) = true
is_given (refuses number detail) = false

-- the list's columns after a build: the entries that are said, and after them what was there; a refusal leaves them as they were
abbrev pub after_list : Said (List Entry) → ListTable → ListTable
after_list (gives es) t = record { places = over t.places (places_of es); ratios = over t.ratios (ratios_of es); wraps = over t.wraps (wraps_of es) }
after_list (refuses number detail) t = t
