-- `trim_start` answers how many bytes of white space stand at the start.
-- Invariant: that is `i` bytes and what stands from `i` on.
use native.Mathlib.Omega.{arith}
use Rattle.white.specs.Trim.{front}
use Rattle.white.proofs.Runs.{ahead_turn, ahead_stop, ahead_end}
use Rattle.white.proofs.Widths.{front_fits}
use Rattle.white.proofs.trim_start.Goals as goal

pub returns-then-n-eq0 : goal.returns-then-n-eq0
returns-then-n-eq0 c = ahead_stop front _ _ c.white_at-n.ensures c.if-n-eq0.true c.loop-i.invariant.1

pub overflow_add-i : goal.overflow_add-i
overflow_add-i c = omega (arith, (ahead_turn front front_fits _ _ c.loop-i.invariant.0 c.white_at-n.ensures c.if-n-eq0.false c.loop-i.invariant.1).0)

pub loop-i-preserved : goal.loop-i-preserved
loop-i-preserved c = ahead_turn front front_fits _ _ c.loop-i.invariant.0 c.white_at-n.ensures c.if-n-eq0.false c.loop-i.invariant.1

pub returns : goal.returns
returns c = ahead_end front _ _ c.loop-i-test.false c.loop-i.invariant.1
