-- `pad` meets its contract: unmapped entries from one place up to another.
-- The invariant: padding what the table is now, from here on, gives what padding the whole gives.
use mathlib.Core.Path.{sym, ◌∙◌}
use lib.ListN.{length-set}
use Rattle.kbm_read.proofs.Fills.{pad_end, pad_step}
use Rattle.kbm_read.proofs.pad.Goals as goal

pub loop-i-preserved : goal.loop-i-preserved
loop-i-preserved c = (simp length-set c.loop-i.invariant.0, c.loop-i.invariant.1 ∙ pad_step _ _ _ c.loop-i-test.true)

pub returns : goal.returns
returns c = sym (c.loop-i.invariant.1 ∙ pad_end _ _ _ c.loop-i-test.false)
