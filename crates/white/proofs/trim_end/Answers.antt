-- `trim_end` answers where the white space at the end starts.
-- Invariant: what white space stands at the end is what stands behind `e`, and what stands before `e`.
use native.Mathlib.Omega.{arith}
use Rattle.white.specs.Trim.{back}
use Rattle.white.proofs.Runs.{behind_turn, behind_stop}
use Rattle.white.proofs.Widths.{back_fits}
use Rattle.white.proofs.trim_end.Goals as goal

pub returns-then-n-eq0 : goal.returns-then-n-eq0
returns-then-n-eq0 c = behind_stop back _ _ c.loop-e.invariant.0 c.loop-e.invariant.1 c.white_before-n.ensures c.if-n-eq0.true

pub overflow_sub-e : goal.overflow_sub-e
overflow_sub-e c = (behind_turn back back_fits _ _ c.loop-e.invariant.0 c.white_before-n.ensures c.if-n-eq0.false c.loop-e.invariant.1).0

pub loop-e-preserved : goal.loop-e-preserved
loop-e-preserved c = (omega arith, (behind_turn back back_fits _ _ c.loop-e.invariant.0 c.white_before-n.ensures c.if-n-eq0.false c.loop-e.invariant.1).1)
