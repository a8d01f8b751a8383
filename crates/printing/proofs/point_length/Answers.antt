-- `point_length` meets its contract: a dot where there are decimals.
-- Each return rewrites with its test.
use borrow.Author.Tests.{lt-ltb, le-ltb}
use Rattle.printing.proofs.point_length.Goals as goal

pub returns-then-d-gt0 : goal.returns-then-d-gt0
returns-then-d-gt0 c = rw (lt-ltb _ _ c.if-d-gt0.true)

pub returns-else-d-gt0 : goal.returns-else-d-gt0
returns-else-d-gt0 c = rw (le-ltb _ _ c.if-d-gt0.false)
