-- A lent slice of structs is a list of entries: "Of a sorted entry, its place, reduced ratio and wraparounds stand together"
-- (document 01, "Scales and searches"). Assumes nothing.
use Rattle.std.specs.Prelude.{ℕ, zero, suc, List, map, ℤ, pos, get_or, take, set, Float}
use Rattle.std.specs.Float.{nan}
use Rattle.sorting.specs.Entries.{Entry, zip}
use Rattle.sorted.specs.Lent.{ListTable, list_table, places_of, ratios_of, wraps_of}
use Rattle.entries.specs.declared.SortedEntry.{SortedEntry}

-- a struct is the entry with its three fields
abbrev pub as_entry : SortedEntry → Entry
as_entry e = record { place = e.place; ratio = e.ratio; wraps = e.wraps }

-- a slice of structs is the list of their entries
abbrev pub as_entries : List SortedEntry → List Entry
as_entries = map as_entry

-- the columns of a slice of structs
abbrev pub columns_in : List SortedEntry → ListTable
columns_in l = list_table (places_of (as_entries l)) (ratios_of (as_entries l)) (wraps_of (as_entries l))

-- the first n entries of the columns
abbrev pub first_of : ℕ → ListTable → List Entry
first_of n t = zip (take n t.places) (take n t.ratios) (take n t.wraps)

-- ---- what the code writes
-- what stands past the end
abbrev pub no_sorted_entry : SortedEntry
no_sorted_entry = record { place = 0; ratio = nan; wraps = pos 0 }

-- what three columns have at a place
abbrev pub sorted_entry_at : List ℕ → List Float → List ℤ → ℕ → SortedEntry
sorted_entry_at ps rs ws i = record { place = get_or ps i 0; ratio = get_or rs i nan; wraps = get_or ws i (pos 0) }

-- a list with its first n entries given place by place
abbrev pub filled : (ℕ → SortedEntry) → ℕ → List SortedEntry → List SortedEntry
filled g zero l = l
filled g (suc n) l = set (filled g n l) n (g n)
