-- 10 outside the range, 29 for limit 0, else the best fraction. No loop. Assumes nothing.
use mathlib.Core.Path.{sym, ◌∙◌}
use Rattle.best.specs.Answers.{BestSaid}
use Rattle.best.proofs.best_fraction.Goals as goal

pub returns-then-limit-eq0 : goal.returns-then-limit-eq0
returns-then-limit-eq0 c = BestSaid.none (sym c.is_in_search.ensures ∙ c.if-is_in_search.true) c.if-limit-eq0.true

pub returns-then-is_in_search : goal.returns-then-is_in_search
returns-then-is_in_search c = BestSaid.found (sym c.is_in_search.ensures ∙ c.if-is_in_search.true) _ c.best_for.ensures

pub returns : goal.returns
returns c = BestSaid.outside (sym c.is_in_search.ensures ∙ c.if-is_in_search.false)
