-- `walk_to_end` meets its contract. The invariant: the rest of the walk comes to what the whole comes to, and turns
-- enough are left. The measure: the two fractions grow, and 16 bits hold them. Assumes nothing.
use Prim.Native.Nat.{◌-◌}
use Rattle.fraction.proofs.WalkEnds.{size, Walking}
use Rattle.fraction.proofs.walk_to_end.Given as goal

abbrev pub invariant-loop-next : goal.invariant-loop-next
invariant-loop-next l = Walking l.target l.limit l.w

abbrev pub decreases-loop-next : goal.decreases-loop-next
decreases-loop-next l = 262140 - size l.w
