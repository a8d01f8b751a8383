-- `trim_end` answers where the white space at the end starts.
-- Invariant: what white space stands at the end is what stands behind `e`, and what stands before `e`.
use mathlib.Core.Path.{◌≡◌}
use mathlib.Core.List.{reverse}
use Prim.Native.Nat.{◌+◌, ◌-◌, ◌≤◌}
use lib.ListN.{length, take}
use Rattle.white.specs.Trim.{back, run}
use Rattle.white.proofs.trim_end.Given as goal

abbrev pub invariant-loop-e : goal.invariant-loop-e
invariant-loop-e l = (l.e ≤ length l.s) × (run back 0 (reverse l.s) ≡ length l.s - l.e + run back 0 (reverse (take l.e l.s)))

abbrev pub decreases-loop-e : goal.decreases-loop-e
decreases-loop-e l = l.e
