-- Past the fraction at hand, up or on. No loop. Assumes nothing.
use mathlib.Core.Path.{sym, ◌∙◌}
use Rattle.best.proofs.Steps.{up, on}
use Rattle.best.proofs.step.Goals as goal

pub returns-then-is_below : goal.returns-then-is_below
returns-then-is_below c = up _ _ _ _ c.requires.0 c.requires.1 c.requires.2 _ (sym c.is_below.ensures ∙ c.if-is_below.true) c.go_up.ensures

pub returns : goal.returns
returns c = on _ _ _ _ c.requires.0 c.requires.1 c.requires.2 _ (sym c.is_below.ensures ∙ c.if-is_below.false) c.go_on.ensures
