-- `is_utf8` answers whether the machine accepts the text.
-- Invariant: the machine's answer on all of it is its answer on the rest from `i` on, in the state reached. Between two
-- characters plain bytes are passed eight at a time.
use mathlib.Core.Path.{◌≡◌}
use Prim.Native.Nat.{◌≤◌, ◌-◌}
use lib.ListN.{length, drop}
use Rattle.utf8.specs.Utf8Machine.{none_due, utf8_from}
use Rattle.utf8.proofs.is_utf8.Given as goal

abbrev pub invariant-loop-i : goal.invariant-loop-i
invariant-loop-i l = (l.i ≤ length l.s) × (utf8_from none_due l.s ≡ utf8_from l.st (drop l.i l.s))

abbrev pub decreases-loop-i : goal.decreases-loop-i
decreases-loop-i l = length l.s - l.i
