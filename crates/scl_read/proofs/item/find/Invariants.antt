-- `find` answers the first place of a byte. The invariant: so far it did not stand there.
use Rattle.scl_read.proofs.Finds.{Along}
use Rattle.scl_read.proofs.item.find.Given as goal

abbrev pub invariant-loop-i : goal.invariant-loop-i
invariant-loop-i l = Along l.byte l.s l.i
