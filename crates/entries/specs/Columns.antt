-- What the searches on columns answer, in one definition. Document 01, "Scales and searches". Assumes nothing.
use Rattle.std.specs.Prelude.{Bool, ◌&&◌, ℕ, Float}
use Rattle.base.specs.Said.{Said, pick, and_then}
use Rattle.floats.specs.Ranges.{in_search}
use Rattle.sorted.specs.Lent.{ListTable, list_in}
use Rattle.scl.specs.Table.{ItemTable, items_in}
use Rattle.relative.specs.Scales.{tested, is_scale}
use Rattle.searching.specs.Search.{search_of}
use Rattle.searching.specs.declared.Found.{Found}
use Rattle.searching.specs.Degrees.{declared_of, ascending_of}
use Rattle.searching.specs.declared.approximation.Approximation.{Approximation}

-- the ascending degree of what was found where `sorted`, else the declared one
abbrev pub degree_by : Bool → ℕ → Found → Said Approximation
degree_by sorted count = pick sorted (ascending_of count) (declared_of count)

-- what `find_by_relative_pitch` answers, and where `sorted` its sorted sister: of so many items in these tables, and this list
abbrev pub column_search : Bool → ℕ → ItemTable → ListTable → Float → Said Approximation
column_search sorted count t l x = tested (is_scale count t l && in_search x) (and_then (search_of (items_in count t) (list_in count l) x) (degree_by sorted count))
