-- The result is 2 ^ s - 1 below zero, else 0.
-- No loop; the shift is `set_bit` of Floor.antt.
use Rattle.std.proofs.Common.{rules}
use Rattle.explog.proofs.Floor.{set_bit, set_some}
use Rattle.explog.proofs.rounding_up.Goals as goal

pub overflow_sub-result : goal.overflow_sub-result
overflow_sub-result c = set_some c.args.s c.requires

pub returns-then-negative : goal.returns-then-negative
returns-then-negative c = rw (c.if-negative.true, set_bit c.args.s c.requires)
