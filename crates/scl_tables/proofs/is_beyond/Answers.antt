-- `is_beyond` meets its contract: of two or more items, whether the last one's octaves are 0.
use mathlib.Core.Path.{sym, ◌∙◌, ap}
use borrow.Author.Tests.{lt-leb}
use Rattle.explog.specs.Rules.{L}
use Rattle.scl_tables.proofs.Beyond.{beyond_look, too_few}
use Rattle.scl_tables.proofs.is_beyond.Goals as goal

pub returns-then-count-ge2 : goal.returns-then-count-ge2
returns-then-count-ge2 c = beyond_look c.args.count c.args.last c.if-count-ge2.true c.ratio_of.ensures.0 (sym (ap L c.period_of.ensures.0) ∙ c.period_of.ensures.1.octaves)

pub returns-else-count-ge2 : goal.returns-else-count-ge2
returns-else-count-ge2 c = lt-leb 2 c.args.count c.if-count-ge2.false ∙ too_few c.args.count c.args.last c.if-count-ge2.false
