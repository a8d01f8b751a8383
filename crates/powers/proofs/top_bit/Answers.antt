-- The result is 1 where s has reached 2 ^ 63, else 0.
-- No loop; each way cites the law of the bit, for what its test says of s.
use native.Mathlib.Omega.{arith}
use Rattle.powers.proofs.Turns.{bit_set, bit_clear}
use Rattle.powers.proofs.top_bit.Goals as goal

pub returns-then-s-ge9223372036854775808 : goal.returns-then-s-ge9223372036854775808
returns-then-s-ge9223372036854775808 c = bit_set c.args.s (omega (arith, c.if-s-ge9223372036854775808.true))

pub returns-else-s-ge9223372036854775808 : goal.returns-else-s-ge9223372036854775808
returns-else-s-ge9223372036854775808 c = bit_clear c.args.s (omega (arith, c.if-s-ge9223372036854775808.false))
