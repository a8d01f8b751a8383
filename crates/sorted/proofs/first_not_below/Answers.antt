-- `first_not_below` meets its contract. The invariant: below lo every ratio is below x, from hi on none is (Search.antt).
-- The measure is hi - lo.
use borrow.Author.Rules.{rules}
use Rattle.sorted.proofs.Search.{raise, lower, found}
use Rattle.sorted.proofs.first_not_below.Goals as goal

pub loop-lo-preserved-then-ratio-mid : goal.loop-lo-preserved-then-ratio-mid
loop-lo-preserved-then-ratio-mid c = raise c.requires.0 c.requires.1 c.requires.2 c.loop-lo.invariant _ (search rules) (search rules) c.if-ratio-mid.true

pub loop-lo-preserved : goal.loop-lo-preserved
loop-lo-preserved c = lower c.requires.0 c.requires.1 c.requires.2 c.loop-lo.invariant _ (search rules) (search rules) c.if-ratio-mid.false

pub returns : goal.returns
returns c = found c.loop-lo.invariant c.loop-lo-test.false
