-- `is_utf8` answers whether the machine accepts the text.
-- Invariant: the machine's answer on all of it is its answer on the rest from `i` on, in the state reached. Between two
-- characters plain bytes are passed eight at a time.
use mathlib.Core.Path.{refl, sym, ◌∙◌}
use native.Mathlib.Omega.{arith}
use Rattle.utf8.specs.Utf8Machine.{none_due}
use Rattle.utf8.proofs.Utf8Steps.{run_turn, run_end, run_pass}
use Rattle.utf8.proofs.Passes.{passed_end}
use Rattle.utf8.proofs.is_utf8.Goals as goal

pub loop-i-init : goal.loop-i-init
loop-i-init c = (passed_end c.pass-i.ensures (omega arith), run_pass none_due refl c.pass-i.ensures)

pub returns-in_default : goal.returns-in_default
returns-in_default c = sym (c.loop-i.invariant.1 ∙ run_turn _ _ _ c.loop-i-test.true c.advance.ensures c.in_default.is)

pub loop-i-preserved-then-st-eq0 : goal.loop-i-preserved-then-st-eq0
loop-i-preserved-then-st-eq0 c = (
  passed_end c.pass-i-then-st-eq0.ensures (omega arith),
  c.loop-i.invariant.1
      ∙ run_turn _ _ _ c.loop-i-test.true c.advance.ensures c.in-Some.is
      ∙ run_pass c.in-Some.t c.if-st-eq0.true c.pass-i-then-st-eq0.ensures,
)

pub loop-i-preserved : goal.loop-i-preserved
loop-i-preserved c = (omega arith, c.loop-i.invariant.1 ∙ run_turn _ _ _ c.loop-i-test.true c.advance.ensures c.in-Some.is)

pub returns : goal.returns
returns c = sym (c.loop-i.invariant.1 ∙ run_end _ _ _ c.loop-i-test.false)
