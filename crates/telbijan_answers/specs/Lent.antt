-- The lent tables of a scale in a contract: what stands behind the references, before the call and after it. An `ensures` says
-- `columns_before kind cents numer denom` of columns that the call reads, and of columns that it may write `columns_old ..` and
-- `columns_after ..`; so for the list. Assumes nothing.
use Rattle.std.specs.Prelude.{List, ℕ, ℤ, Float}
use Rattle.std.specs.Borrow.{MutBor}
use denote.Triple.Both.{Both}
use Rattle.scl.specs.Lent.{Column, items_before}
use Rattle.scl.specs.Table.{ItemTable, item_table}
use Rattle.sorted.specs.Lent.{ListTable, list_table}

-- a parameter that is a column of A which the call may write, before the call and after it
abbrev pub WrittenColumn : Type 0 → Type 0
WrittenColumn A = Both (MutBor (List A)) (MutBor (List A))

-- ---- items
abbrev pub columns_before : Column ℕ → Column Float → Column ℕ → Column ℕ → ItemTable
columns_before kind cents numer denom = items_before kind cents numer denom

abbrev pub columns_old : WrittenColumn ℕ → WrittenColumn Float → WrittenColumn ℕ → WrittenColumn ℕ → ItemTable
columns_old kind cents numer denom = item_table kind.entry.now cents.entry.now numer.entry.now denom.entry.now

abbrev pub columns_after : WrittenColumn ℕ → WrittenColumn Float → WrittenColumn ℕ → WrittenColumn ℕ → ItemTable
columns_after kind cents numer denom = item_table kind.exit.now cents.exit.now numer.exit.now denom.exit.now

-- ---- the sorted list
abbrev pub list_before : Column ℕ → Column Float → Column ℤ → ListTable
list_before place ratio wraps = list_table place.entry.now ratio.entry.now wraps.entry.now

abbrev pub list_old : WrittenColumn ℕ → WrittenColumn Float → WrittenColumn ℤ → ListTable
list_old place ratio wraps = list_table place.entry.now ratio.entry.now wraps.entry.now

abbrev pub list_after : WrittenColumn ℕ → WrittenColumn Float → WrittenColumn ℤ → ListTable
list_after place ratio wraps = list_table place.exit.now ratio.exit.now wraps.exit.now
