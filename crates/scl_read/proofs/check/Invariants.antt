-- `check` answers what the walk over the lines gives. The invariant: what is left to walk, after what was said so far,
-- gives the answer of the whole; a line has at least one byte, so its number stays in range; the last item can be used.
use mathlib.Core.Path.{◌≡◌}
use mathlib.Core.Bool.{true}
use Prim.Native.Nat.{◌≤◌, ◌+◌, ◌-◌}
use lib.ListN.{length, drop}
use Rattle.scl.specs.Items.{is_usable}
use Rattle.text.specs.ReadLine.{said_in}
use Rattle.scl_read.specs.Reader.{check_of, walk}
use Rattle.scl_read.proofs.check.Given as goal

abbrev pub invariant-loop-at : goal.invariant-loop-at
invariant-loop-at l =
    (l.at ≤ length l.text) × (l.line ≤ l.at + 1) × (check_of l.places l.text ≡ walk l.places l.line l.state (said_in (drop l.at l.text))) × (is_usable l.state.last ≡ true)

abbrev pub decreases-loop-at : goal.decreases-loop-at
decreases-loop-at l = length l.text - l.at
