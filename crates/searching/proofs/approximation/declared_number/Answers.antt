-- `declared_number` meets its contract: 64 bits hold the difference, the product and the sum.
use lib.IntN.{◌-ℤ◌}
use Rattle.base.proofs.Integers.{mag_sub}
use Rattle.base.proofs.Machine.{exact_fits, exact_is}
use Rattle.searching.proofs.Exact.{near_33, plus_fits, plus_is, times_fits}
use borrow.Author.Rules.{rules}
use Rattle.searching.proofs.approximation.declared_number.Goals as goal

pub overflow_sub-result : goal.overflow_sub-result
overflow_sub-result c = rw (c.from-2.ensures, c.from-3.ensures) (exact_fits ◌-ℤ◌ mag_sub c.ranges.periods c.ranges.wraps)

pub overflow_mul-result : goal.overflow_mul-result
overflow_mul-result c =
    rw (c.from-2.ensures, c.from-3.ensures, c.from-4.ensures)
    (times_fits c.args.place c.args.count (c.args.periods -ℤ c.args.wraps) (search rules) (search rules) (near_33 c.ranges.periods c.ranges.wraps) _ (exact_is ◌-ℤ◌ mag_sub c.ranges.periods c.ranges.wraps))

pub overflow_add-result : goal.overflow_add-result
overflow_add-result c =
    rw (c.from.ensures, c.from-2.ensures, c.from-3.ensures, c.from-4.ensures)
    (plus_fits c.args.place c.args.count (c.args.periods -ℤ c.args.wraps) (search rules) (search rules) (near_33 c.ranges.periods c.ranges.wraps) _ (exact_is ◌-ℤ◌ mag_sub c.ranges.periods c.ranges.wraps))

pub returns : goal.returns
returns c =
    rw (c.from.ensures, c.from-2.ensures, c.from-3.ensures, c.from-4.ensures)
    (plus_is c.args.place c.args.count (c.args.periods -ℤ c.args.wraps) (search rules) (search rules) (near_33 c.ranges.periods c.ranges.wraps) _ (exact_is ◌-ℤ◌ mag_sub c.ranges.periods c.ranges.wraps))
