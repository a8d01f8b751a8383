-- `is_next` meets its contract: in the range, not below the one before, within the count.
-- Assumes nothing.
use Rattle.sorted.specs.Lent.{may_follow}
use Rattle.entries.proofs.search.is_next.Goals as goal

pub returns : goal.returns
unfolding may_follow
returns c = rw c.is_in_reach-reached.ensures
