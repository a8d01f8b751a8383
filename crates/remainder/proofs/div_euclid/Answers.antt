-- The result is std's div_euclid: the whole part of the quotient, one away where the remainder is below zero.
-- No loop; each way is the definition's tests.
use mathlib.Core.Path.{ap}
use lib.Ieee.{Float, binary64, add, sub, of_bits}
use Rattle.floats.specs.Floats.{one_f}
use borrow.Author.Rules.{rules}
use Rattle.remainder.proofs.Modulo.{tested}
use Rattle.remainder.proofs.div_euclid.Goals as goal

pub returns-then-b : goal.returns-then-b
unfolding of_bits
returns-then-b c = rw (tested _ _ _ c.rem_of.ensures c.if-rem_of.true, c.if-b.true) (ap (λ (y : Float). sub binary64 y one_f) c.trunc_of-q.ensures)

pub returns-else-b : goal.returns-else-b
unfolding of_bits
returns-else-b c = rw (tested _ _ _ c.rem_of.ensures c.if-rem_of.true, c.if-b.false) (ap (λ (y : Float). add binary64 y one_f) c.trunc_of-q.ensures)

pub returns-else-rem_of : goal.returns-else-rem_of
returns-else-rem_of c = rw (tested _ _ _ c.rem_of.ensures c.if-rem_of.false) c.trunc_of-q.ensures
