-- `next_line` answers where the line from `at` on ends, and where the next one starts.
-- Invariant: the cut of the text from `at` on is that of the rest from `i` on.
use mathlib.Core.Path.{◌≡◌}
use Prim.Native.Nat.{◌≤◌, ◌-◌}
use lib.ListN.{length, drop}
use Rattle.text.specs.Cut.{cut}
use Rattle.text.proofs.lines.next_line.Given as goal

abbrev pub invariant-loop-i : goal.invariant-loop-i
invariant-loop-i l = (l.at ≤ l.i) × (cut l.at (drop l.at l.text) ≡ cut l.i (drop l.i l.text))

abbrev pub decreases-loop-i : goal.decreases-loop-i
decreases-loop-i l = length l.text - l.i
