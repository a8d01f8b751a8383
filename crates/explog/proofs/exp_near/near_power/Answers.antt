-- The result is near P: what the tables say of b's bits, multiplied, is `is_near` of Near.antt. Where the parts begin and end is read
-- off the tables' contracts.
-- No loop.
use Rattle.std.proofs.Common.{refl, arith, lit≤, rules}
use Rattle.powers.proofs.Bound.{power_below}
use Rattle.explog.proofs.Near.{part_below, sums, first_below, pair_below, three_below, is_near}
use Rattle.explog.proofs.exp_near.near_power.Goals as goal

pub mul_shift62-head-requires : goal.mul_shift62-head-requires
mul_shift62-head-requires c = (power_below _ _ _ (lit≤ tt) c.first_steps.ensures, part_below _ _ _ _ (lit≤ tt) c.product_1.ensures)

pub mul_shift62-body-requires : goal.mul_shift62-body-requires
mul_shift62-body-requires c = (
  first_below _ _ _ (lit≤ tt) c.first_steps.ensures _ _ _ (lit≤ tt) c.product_1.ensures c.mul_shift62-head.ensures,
  pair_below _ _ _ (lit≤ tt) c.first_steps.ensures _ _ _ (lit≤ tt) c.product_1.ensures c.mul_shift62-head.ensures _ _ _ _ _ (lit≤ tt) (lit≤ tt) c.product_2.ensures
      c.product_3.ensures c.mul_shift62-tail.ensures,
)

pub mul_shift62-requires : goal.mul_shift62-requires
mul_shift62-requires c = (
  three_below _ _ _ (lit≤ tt) c.first_steps.ensures _ _ _ (lit≤ tt) c.product_1.ensures
      c.mul_shift62-head.ensures _ _ _ _ _ (lit≤ tt) (lit≤ tt) c.product_2.ensures
      c.product_3.ensures c.mul_shift62-tail.ensures _ c.mul_shift62-body.ensures,
  search rules,
)

pub returns : goal.returns
returns c =
    is_near _ _ _ (lit≤ tt) c.first_steps.ensures _ _ _ (lit≤ tt) c.product_1.ensures
    c.mul_shift62-head.ensures _ _ _ _ _ (lit≤ tt) (lit≤ tt) c.product_2.ensures c.product_3.ensures
    c.mul_shift62-tail.ensures _ c.mul_shift62-body.ensures refl _ (sums _ _ _ _ _ _ _ _ c.sum_1.ensures c.sum_2.ensures c.sum_3.ensures)
    (omega (arith, c.sum_1.ensures.below, c.sum_2.ensures.below, c.sum_3.ensures.below)) _ c.mul_shift62.ensures
