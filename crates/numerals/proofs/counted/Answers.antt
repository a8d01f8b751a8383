-- `counted` meets its contract: one digit more, unless all so far are zeros.
-- Each return rewrites with its test.
use borrow.Author.Tests.{eq-eqb, ne_eqb}
use Rattle.numerals.proofs.counted.Goals as goal

pub returns-then-n-d-eq0 : goal.returns-then-n-d-eq0
returns-then-n-d-eq0 c = rw (eq-eqb _ _ c.if-n-d-eq0.true)

pub returns-else-n-d-eq0 : goal.returns-else-n-d-eq0
returns-else-n-d-eq0 c = rw (ne_eqb _ _ c.if-n-d-eq0.false)
