-- `pass` meets its contract: each turn passes eight bytes.
-- Invariant: every byte from `from` to `i` lies between the limits. The measure is what is left of the text.
use mathlib.Core.Path.{sym, ◌∙◌}
use native.Mathlib.Omega.{arith}
use Rattle.utf8.proofs.Passes.{passed_eight}
use Rattle.utf8.proofs.eights.pass.Goals as goal

pub loop-i-preserved : goal.loop-i-preserved
loop-i-preserved c = passed_eight c.loop-i.invariant (omega arith) (sym c.are_between.ensures ∙ c.if-are_between.true)
