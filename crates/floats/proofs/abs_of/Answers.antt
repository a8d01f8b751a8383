-- The result is the size of x: below zero x negated, a zero 0.0, else x itself.
-- No loop; the three ways are `abs_negative`, `abs_zero`, `abs_rest`.
use lib.Ieee.{of_bits}
use Rattle.floats.proofs.Sign.{abs_negative, abs_zero, abs_rest}
use Rattle.floats.proofs.abs_of.Goals as goal

pub returns-then-x : goal.returns-then-x
unfolding of_bits
returns-then-x c = abs_negative c.args.x c.if-x.true

pub returns-then-x-2 : goal.returns-then-x-2
unfolding of_bits
returns-then-x-2 c = abs_zero c.args.x c.well_formed.0.1 c.if-x-2.true

pub returns-else-x-2 : goal.returns-else-x-2
unfolding of_bits
returns-else-x-2 c = abs_rest c.args.x c.if-x.false c.if-x-2.false
