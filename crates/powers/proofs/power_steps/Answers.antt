-- The result is P after `to` steps.
-- Invariant: q is P after k steps, and k is at most `to`. Measure: to - k.
use Prim.Native.Nat.{◌-◌, ◌≤◌}
use native.Mathlib.Omega.{arith}
use borrow.Author.Rules.{rules}
use Rattle.powers.specs.Inner.{Power}
use Rattle.powers.proofs.Bound.{next, power_below, arrived}
use Rattle.powers.proofs.power_steps.Goals as goal

pub loop-k-init : goal.loop-k-init
loop-k-init c = (c.requires.0, c.requires.2)

pub mul_shift62-q-requires : goal.mul_shift62-q-requires
mul_shift62-q-requires c = (power_below _ _ _ (omega arith) c.loop-k.invariant.1, c.factor.ensures.below)

pub loop-k-preserved : goal.loop-k-preserved
loop-k-preserved c = (omega arith, next c.args.b c.loop-k.k c.loop-k.q _ _ (omega arith) c.loop-k.invariant.1 c.factor.ensures c.mul_shift62-q.ensures)

pub returns : goal.returns
returns c = arrived _ _ _ _ c.loop-k.invariant.0 c.loop-k-test.false c.loop-k.invariant.1
