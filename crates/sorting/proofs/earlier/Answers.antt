-- `earlier` meets its contract: the lower ratio first, and of equal ratios the lower place.
-- No loop.
use Rattle.sorting.specs.Heap.{comes, earlier_at}
use Rattle.sorting.proofs.earlier.Goals as goal

pub returns-then-a-b : goal.returns-then-a-b
unfolding earlier_at comes
returns-then-a-b c = simp c.if-a-b.true

pub returns-then-b-a : goal.returns-then-b-a
unfolding earlier_at comes
returns-then-b-a c = simp (c.if-a-b.false, c.if-b-a.true)

pub returns-else-b-a : goal.returns-else-b-a
unfolding earlier_at comes
returns-else-b-a c = simp (c.if-a-b.false, c.if-b-a.false)
