-- `pass` meets its contract: each turn passes eight bytes.
-- Invariant: every byte from `from` to `i` lies between the limits. The measure is what is left of the text.
use Prim.Native.Nat.{◌-◌}
use lib.ListN.{length}
use Rattle.utf8.specs.Eights.{Passed}
use Rattle.utf8.proofs.eights.pass.Given as goal

abbrev pub invariant-loop-i : goal.invariant-loop-i
invariant-loop-i l = Passed l.low l.high l.s l.from l.i

abbrev pub decreases-loop-i : goal.decreases-loop-i
decreases-loop-i l = length l.s - l.i
