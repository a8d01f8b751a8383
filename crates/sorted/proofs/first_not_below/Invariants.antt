-- `first_not_below` meets its contract. The invariant: below lo every ratio is below x, from hi on none is (Search.antt).
-- The measure is hi - lo.
use Prim.Native.Nat.{◌-◌}
use Rattle.sorted.proofs.Search.{Between}
use Rattle.sorted.proofs.first_not_below.Given as goal

abbrev pub invariant-loop-lo : goal.invariant-loop-lo
invariant-loop-lo l = Between l.ratio l.x l.lo l.hi

abbrev pub decreases-loop-lo : goal.decreases-loop-lo
decreases-loop-lo l = l.hi - l.lo
