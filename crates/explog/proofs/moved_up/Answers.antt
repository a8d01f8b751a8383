-- The result is 2 ^ 62 + w or 2 ^ 62 - w.
-- No loop; each way is the definition's.
use Rattle.std.proofs.Common.{rules}
use Rattle.explog.proofs.moved_up.Goals as goal

pub returns-then-negative : goal.returns-then-negative
returns-then-negative c = rw c.if-negative.true

pub returns-else-negative : goal.returns-else-negative
returns-else-negative c = rw c.if-negative.false
