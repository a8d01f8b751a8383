-- The result is P after `to` steps.
-- Invariant: q is P after k steps, and k is at most `to`. Measure: to - k.
use Prim.Native.Nat.{◌-◌, ◌≤◌}
use native.Mathlib.Omega.{arith}
use borrow.Author.Rules.{rules}
use Rattle.powers.specs.Inner.{Power}
use Rattle.powers.proofs.Bound.{next, power_below, arrived}
use Rattle.powers.proofs.power_steps.Given as goal

abbrev pub invariant-loop-k : goal.invariant-loop-k
invariant-loop-k l = (l.k ≤ l.to) × Power l.b l.k l.q

abbrev pub decreases-loop-k : goal.decreases-loop-k
decreases-loop-k l = l.to - l.k
