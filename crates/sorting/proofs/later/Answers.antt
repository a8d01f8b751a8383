-- `later` meets its contract: the later of two entries, where the second is below k.
-- No loop.
use borrow.Author.Tests.{lt-ltb, le-ltb}
use Rattle.sorting.specs.Heap.{later_of}
use Rattle.sorting.proofs.later.Goals as goal

pub returns-then-earlier : goal.returns-then-earlier
unfolding later_of
returns-then-earlier c = let j = lt-ltb _ _ c.if-j-k.true in rw (j, ← c.earlier.ensures, c.if-earlier.true)

pub returns-else-earlier : goal.returns-else-earlier
unfolding later_of
returns-else-earlier c = let j = lt-ltb _ _ c.if-j-k.true in rw (j, ← c.earlier.ensures, c.if-earlier.false)

pub returns-else-j-k : goal.returns-else-j-k
unfolding later_of
returns-else-j-k c = let j = le-ltb _ _ c.if-j-k.false in rw j
