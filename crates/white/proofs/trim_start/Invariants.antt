-- `trim_start` answers how many bytes of white space stand at the start.
-- Invariant: that is `i` bytes and what stands from `i` on.
use mathlib.Core.Path.{◌≡◌}
use Prim.Native.Nat.{◌+◌, ◌-◌, ◌≤◌}
use lib.ListN.{length, drop}
use Rattle.white.specs.Trim.{front, run}
use Rattle.white.proofs.trim_start.Given as goal

abbrev pub invariant-loop-i : goal.invariant-loop-i
invariant-loop-i l = (l.i ≤ length l.s) × (run front 0 l.s ≡ l.i + run front 0 (drop l.i l.s))

abbrev pub decreases-loop-i : goal.decreases-loop-i
decreases-loop-i l = length l.s - l.i
