-- A pass over a list of structs: each entry is tested, and the neighbours of the target are kept; "Its start is the first entry not
-- below the target" (document 01, "Scales and searches"). Assumes nothing.
use Rattle.std.specs.Prelude.{◌≡◌, Bool, true, ◌&&◌, ◌||◌, List, ℕ, zero, suc, ◌+◌, ◌≤◌, ◌<◌, eqb, ltb, leb, pos, get_or, Float}
use Rattle.std.specs.Float.Ieee.{lt}
use Rattle.base.specs.Numbers.{beyond_reach}
use Rattle.base.specs.Said.{Said, gives, refuses, pick, and_then}
use Rattle.floats.specs.Floats.{zero_f}
use Rattle.floats.specs.Ranges.{in_reach, in_search}
use Rattle.sorting.specs.Entries.{Entry}
use Rattle.sorted.specs.Lent.{may_follow}
use Rattle.scl.specs.Table.{ItemTable, items_in, is_items}
use Rattle.scl.specs.declared.Item.{Item}
use Rattle.relative.specs.Scales.{tested}
use Rattle.searching.specs.Search.{chosen_of, index_of, found_at, nearest_of, search_of}
use Rattle.searching.specs.declared.Choice.{Choice}
use Rattle.searching.specs.declared.Found.{Found}
use Rattle.searching.specs.declared.approximation.Approximation.{Approximation}
use Rattle.entries.specs.Entries.{as_entry, no_sorted_entry}
use Rattle.entries.specs.declared.SortedEntry.{SortedEntry}
use Rattle.entries.specs.Columns.{degree_by}
use Rattle.entries.specs.declared.search.Aim.{Aim}
use Rattle.entries.specs.declared.search.Scan.{Scan}

-- ---- the start
-- what a search of x looks for in any list: the entry that comes nearest to the target, so many periods up
pub record Aims (items : List Item) (x : Float) (a : Aim) : Type 0 where
  pub search : (es : List Entry) → search_of items es x ≡ pick a.beyond (refuses beyond_reach 0) (nearest_of es a.periods a.target)
  pub reach : in_reach a.target ≡ true

-- before the first entry
abbrev pub begun_of : ℕ → Bool → Aim → Scan
begun_of count usable aim = record {
  usable = usable;
  count = count;
  aim = aim;
  last = zero_f;
  at = 0;
  lower = record { place = 0; ratio = zero_f; wraps = pos 0 };
  upper = record { place = 0; ratio = zero_f; wraps = pos 0 };
}

-- in a scale of count items, with a list of so many places
pub record Starts (count : ℕ) (t : ItemTable) (places : ℕ) (x : Float) (s : Scan) : Type 0 where
  pub begins : s ≡ begun_of count s.usable s.aim
  pub usable_is : s.usable ≡ ((is_items count t && in_search x) && ltb count places)
  pub whole : s.usable ≡ true → count ≡ 0 → s.aim.target ≡ x
  pub aims : s.usable ≡ true → 0 < count → Aims (items_in count t) x s.aim

-- how many entries are gone over
abbrev pub scan_places : Scan → ℕ
scan_places s = pick s.usable (s.count + 1) 0

-- ---- a step
-- the entry at i becomes the upper neighbour: the first two do, and those after an upper one below the target
abbrev pub goes_up : Float → Float → ℕ → Bool
goes_up upper target i = ltb i 2 || lt upper target

abbrev pub scan_step : Scan → SortedEntry → ℕ → Scan
scan_step s e i = record {
  usable = s.usable && (may_follow s.last e.ratio && leb e.place s.count);
  count = s.count;
  aim = s.aim;
  last = e.ratio;
  at = pick (goes_up s.upper.ratio s.aim.target i) i s.at;
  lower = pick (goes_up s.upper.ratio s.aim.target i) s.upper s.lower;
  upper = pick (goes_up s.upper.ratio s.aim.target i) e s.upper;
}

-- what the first entries of a list give
abbrev pub scanned : Scan → List SortedEntry → ℕ → Scan
scanned s l zero = s
scanned s l (suc i) = scan_step (scanned s l i) (get_or l i no_sorted_entry) i

-- ---- the end
-- the neighbours can be compared with the target
pub record Comparable (s : Scan) : Type 0 where
  pub lower_reach : in_reach s.lower.ratio ≡ true
  pub upper_reach : in_reach s.upper.ratio ≡ true
  pub target_reach : in_reach s.aim.target ≡ true
  pub some : 0 < s.at
  pub inside : s.at ≤ s.count

pub record Ready (s : Scan) : Type 0 where
  pub near : s.usable ≡ true → 0 < s.count → Comparable s

-- of the two neighbours the chosen one
abbrev pub chosen_by : Scan → Choice → Said Found
chosen_by s c = gives (found_at (as_entry (pick c.upper s.upper s.lower)) (index_of s.at c.upper) s.aim.periods c.deviation)

unfoldable pub nearest_by : Scan → Said Found
nearest_by s = and_then (chosen_of s.lower.ratio s.upper.ratio s.aim.target) (chosen_by s)

unfoldable pub found_by : Scan → Said Found
found_by s = pick (eqb s.count 0) (gives (found_at (as_entry s.upper) 0 (pos 0) s.aim.target)) (pick s.aim.beyond (refuses beyond_reach 0) (nearest_by s))

unfoldable pub answer_of : Scan → Bool → Said Approximation
answer_of s sorted = tested s.usable (and_then (found_by s) (degree_by sorted s.count))
