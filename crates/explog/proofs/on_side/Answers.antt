-- The result is x or -x, by the side.
-- No loop; each way is the definition's test.
use Rattle.std.proofs.Common.{le-leb}
use borrow.Author.Tests.{lt-leb}
use Rattle.explog.proofs.on_side.Goals as goal

pub returns-then-a-ge-PARTS_OF_ONE : goal.returns-then-a-ge-PARTS_OF_ONE
returns-then-a-ge-PARTS_OF_ONE c = rw (le-leb _ _ c.if-a-ge-PARTS_OF_ONE.true)

pub returns-else-a-ge-PARTS_OF_ONE : goal.returns-else-a-ge-PARTS_OF_ONE
returns-else-a-ge-PARTS_OF_ONE c = rw (lt-leb _ _ c.if-a-ge-PARTS_OF_ONE.false)
