-- Calls on the lent tables of a scale: "Before all else a call on lent tables gives 10 unless the count fits them, items are usable,
-- and list ratios lie in 2^-900..2^900 and never fall, with places within the count" (document 01, "Scales and searches").
-- Assumes nothing.
use Rattle.std.specs.Prelude.{Bool, ◌&&◌, ℕ, pos}
use Rattle.std.specs.Float.{nan}
use Rattle.base.specs.Numbers.{unusable}
use Rattle.base.specs.Said.{Said, refuses, pick}
use Rattle.sorting.specs.Entries.{Entry}
use Rattle.sorted.specs.Lent.{ListTable, is_list}
use Rattle.scl.specs.Table.{ItemTable, is_items}

-- 10 unless the test holds
abbrev pub tested : {A : Type 0} → Bool → Said A → Said A
tested test s = pick test s (refuses unusable 0)

-- both tables of a scale can be used
abbrev pub is_scale : ℕ → ItemTable → ListTable → Bool
is_scale count t l = is_items count t && is_list count l

-- what stands past the end of a list
abbrev pub no_entry : Entry
no_entry = record { place = 0; ratio = nan; wraps = pos 0 }
