-- The result is std's rem_euclid: the remainder, moved up by |b| where it is below zero.
-- No loop; each way is the definition's test.
use lib.Ieee.{binary64, add}
use borrow.Author.Rules.{rules}
use Rattle.remainder.proofs.Modulo.{tested}
use Rattle.remainder.proofs.rem_euclid.Goals as goal

pub returns-then-r : goal.returns-then-r
returns-then-r c = rw (tested _ _ _ c.rem_of-r.ensures c.if-r.true) (λ i. add binary64 (c.rem_of-r.ensures i) (c.abs_of.ensures i))

pub returns-else-r : goal.returns-else-r
returns-else-r c = rw (tested _ _ _ c.rem_of-r.ensures c.if-r.false) c.rem_of-r.ensures
