-- `step` meets its contract: its two tests.
-- Assumes nothing.
use mathlib.Core.Path.{◌∙◌, sym}
use mathlib.Core.Bool.{true, false}
use Rattle.entries.proofs.Opened.{step_is}
use Rattle.entries.proofs.search.step.Goals as goal

pub returns-then-goes_up : goal.returns-then-goes_up
returns-then-goes_up c = step_is c.args.s c.args.e c.args.i true c.is_next-next.ensures (sym c.goes_up.ensures ∙ c.if-goes_up.true)

pub returns : goal.returns
returns c = step_is c.args.s c.args.e c.args.i false c.is_next-next.ensures (sym c.goes_up.ensures ∙ c.if-goes_up.false)
