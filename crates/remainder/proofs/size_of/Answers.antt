-- The result is digits * 2 ^ (exponent - 1074).
-- No loop; a product that is exact.
use Prim.Native.Nat.{◌^◌}
use native.Mathlib.Nat.{le_of_lt}
use borrow.Author.Rules.{rules}
use lib.Dec.{le→leb}
use lib.Ieee.{in_float}
use Rattle.remainder.proofs.Modulo.{size_zero, size_some}
use Rattle.remainder.proofs.size_of.Goals as goal

pub int_to_float-result : goal.int_to_float-result
unfolding in_float
int_to_float-result c = le→leb c.args.digits (2 ^ 53) (le_of_lt c.requires.0)

pub returns-then-digits-eq0 : goal.returns-then-digits-eq0
returns-then-digits-eq0 c = size_zero c.args.digits c.args.exponent c.if-digits-eq0.true

pub returns-else-digits-eq0 : goal.returns-else-digits-eq0
returns-else-digits-eq0 c = size_some c.args.digits c.args.exponent c.power.result c.if-digits-eq0.false c.requires.0 c.power.ensures
