-- The result is the lower half of the product, and no sum on the way passes 64 bits.
-- No loop; the columns are `lower_columns`, the room for carries `half_product` of Columns.antt.
use Prim.Native.Nat.{◌/◌, ◌%◌, ◌^◌, ◌≤◌, ◌*◌}
use native.Mathlib.Omega.{arith}
use Rattle.wide.proofs.Columns.{half_product, lower_columns}
use Rattle.wide.proofs.low_product.Goals as goal
use Rattle.wide.proofs.low_product.Goals.{Start}

-- the bound of the lowest product
low_small : (c : Start) → c.args.u % 2 ^ 32 * (c.args.v % 2 ^ 32) ≤ 0xffff_fffe_0000_0001
low_small c = half_product _ _ (omega arith) (omega arith)

pub overflow_mul-low : goal.overflow_mul-low
overflow_mul-low c = omega (arith, low_small (goal.at.overflow_mul-low c).Start)

pub overflow_mul-left : goal.overflow_mul-left
overflow_mul-left c = omega (arith, half_product (c.args.u / 2 ^ 32) (c.args.v % 2 ^ 32) (omega arith) (omega arith))

pub overflow_mul-right : goal.overflow_mul-right
overflow_mul-right c = omega (arith, half_product (c.args.u % 2 ^ 32) (c.args.v / 2 ^ 32) (omega arith) (omega arith))

pub overflow_add-middle : goal.overflow_add-middle
overflow_add-middle c = omega (arith, low_small (goal.at.overflow_add-middle c).Start)

pub overflow_add-middle-2 : goal.overflow_add-middle-2
overflow_add-middle-2 c = omega (arith, low_small (goal.at.overflow_add-middle-2 c).Start)

pub returns : goal.returns
returns c = lower_columns c.args.u c.args.v
