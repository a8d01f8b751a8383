-- `is_in_order` says whether no ratio is below the one before it.
-- Invariant: the whole test is the test of what is left, after the last ratio seen.
use mathlib.Core.Path.{◌≡◌}
use lib.ListN.{drop}
use Rattle.sorting.specs.Asked.{in_order, rises_from}
use Rattle.sorting.proofs.is_in_order.Given as goal

abbrev pub invariant-loop-r : goal.invariant-loop-r
invariant-loop-r l = in_order l.ratio ≡ rises_from l.last (drop l.r-index l.ratio)
