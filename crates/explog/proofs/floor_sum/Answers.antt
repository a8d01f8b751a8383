-- The result is 2 ^ 62 and d * 2 ^ (k - 1022), their sum or difference, rounded down.
-- No loop; one law of Floor.antt for each of the four ways.
use Rattle.std.proofs.Common.{refl, arith, rules}
use Rattle.explog.proofs.Floor.{up_below, none_minus, tiny_minus, tiny_plus, shift_fits, sum_is}
use Rattle.explog.proofs.floor_sum.Goals as goal

pub overflow_add-d : goal.overflow_add-d
overflow_add-d c = omega (arith, c.requires.few_digits, up_below c.args.negative _ _ (omega (arith, c.if-k-le968.false)) c.rounding_up.ensures)

pub moved_up-requires : goal.moved_up-requires
moved_up-requires c = shift_fits c.args.negative c.args.d c.args.k (c.requires.few_digits, (c.requires.within, c.requires.shift)) c.if-k-le968.false _ c.rounding_up.ensures

pub returns-then-d-eq0 : goal.returns-then-d-eq0
returns-then-d-eq0 c = none_minus c.args.negative c.args.d c.args.k (c.requires.few_digits, (c.requires.within, c.requires.shift)) c.if-k-le968.true c.if-negative.true c.if-d-eq0.true

pub returns-else-d-eq0 : goal.returns-else-d-eq0
returns-else-d-eq0 c = tiny_minus c.args.negative c.args.d c.args.k (c.requires.few_digits, (c.requires.within, c.requires.shift)) c.if-k-le968.true c.if-negative.true c.if-d-eq0.false

pub returns-else-negative : goal.returns-else-negative
returns-else-negative c = tiny_plus c.args.negative c.args.d c.args.k (c.requires.few_digits, (c.requires.within, c.requires.shift)) c.if-k-le968.true c.if-negative.false

pub returns-else-k-le968 : goal.returns-else-k-le968
returns-else-k-le968 c = sum_is c.args.negative c.args.d c.args.k (c.requires.few_digits, (c.requires.within, c.requires.shift)) c.if-k-le968.false _ c.rounding_up.ensures _ _ refl c.moved_up.ensures
