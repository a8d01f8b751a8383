-- The result is half of q and the rest after it, a tie to the even one.
-- No loop; each way is the definition's tests.
use Rattle.std.proofs.Common.{rules, eq-eqb, ne_eqb}
use Rattle.rounding.proofs.rounded_half.Goals as goal

pub returns-then-q-eq0 : goal.returns-then-q-eq0
returns-then-q-eq0 c = rw (eq-eqb _ _ c.if-q-eq0.true)

pub returns-then-rest-eq0 : goal.returns-then-rest-eq0
returns-then-rest-eq0 c = rw (ne_eqb _ _ c.if-q-eq0.false, eq-eqb _ _ c.if-rest-eq0.true)

pub returns-else-rest-eq0 : goal.returns-else-rest-eq0
returns-else-rest-eq0 c = rw (ne_eqb _ _ c.if-q-eq0.false, ne_eqb _ _ c.if-rest-eq0.false)
