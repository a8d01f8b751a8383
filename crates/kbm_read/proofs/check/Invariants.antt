-- `check` answers what the walk over the lines gives. The invariant: what is left to walk, after what was said so far,
-- gives the answer of the whole; a line has at least one byte, so its number stays in range.
use mathlib.Core.Path.{◌≡◌}
use Prim.Native.Nat.{◌≤◌, ◌+◌, ◌-◌}
use lib.ListN.{length, drop}
use Rattle.text.specs.ReadLine.{said_in}
use Rattle.kbm_read.specs.Reader.{read_of, walk}
use Rattle.kbm_read.proofs.check.Given as goal

abbrev pub invariant-loop-at : goal.invariant-loop-at
invariant-loop-at l =
    (l.at ≤ length l.text) × (l.line ≤ l.at + 1) × (read_of l.room l.text ≡ walk l.room l.line l.state (said_in (drop l.at l.text)))

abbrev pub decreases-loop-at : goal.decreases-loop-at
decreases-loop-at l = length l.text - l.at
