-- The result is the upper half of the product, and no sum on the way passes 64 bits.
-- No loop; the columns are `columns`, the room for carries `half_product` of Columns.antt.
use Prim.Native.Nat.{◌/◌, ◌%◌, ◌^◌, ◌≤◌, ◌*◌}
use native.Mathlib.Omega.{arith}
use Rattle.wide.proofs.Columns.{half_product, columns}
use Rattle.wide.proofs.high_product.Goals as goal
use Rattle.wide.proofs.high_product.Goals.{Start}

-- the bounds of the four products
low_small : (c : Start) → c.args.u % 2 ^ 32 * (c.args.v % 2 ^ 32) ≤ 0xffff_fffe_0000_0001
low_small c = half_product _ _ (omega arith) (omega arith)

left_small : (c : Start) → c.args.u / 2 ^ 32 * (c.args.v % 2 ^ 32) ≤ 0xffff_fffe_0000_0001
left_small c = half_product _ _ (omega arith) (omega arith)

right_small : (c : Start) → c.args.u % 2 ^ 32 * (c.args.v / 2 ^ 32) ≤ 0xffff_fffe_0000_0001
right_small c = half_product _ _ (omega arith) (omega arith)

upper_small : (c : Start) → c.args.u / 2 ^ 32 * (c.args.v / 2 ^ 32) ≤ 0xffff_fffe_0000_0001
upper_small c = half_product _ _ (omega arith) (omega arith)

pub overflow_mul-low : goal.overflow_mul-low
overflow_mul-low c = omega (arith, low_small (goal.at.overflow_mul-low c).Start)

pub overflow_mul-left : goal.overflow_mul-left
overflow_mul-left c = omega (arith, left_small (goal.at.overflow_mul-left c).Start)

pub overflow_mul-right : goal.overflow_mul-right
overflow_mul-right c = omega (arith, right_small (goal.at.overflow_mul-right c).Start)

pub overflow_add-column : goal.overflow_add-column
overflow_add-column c = omega (arith, low_small (goal.at.overflow_add-column c).Start)

pub overflow_add-column-2 : goal.overflow_add-column-2
overflow_add-column-2 c = omega (arith, low_small (goal.at.overflow_add-column-2 c).Start)

pub overflow_mul-result : goal.overflow_mul-result
overflow_mul-result c = omega (arith, upper_small (goal.at.overflow_mul-result c).Start)

pub overflow_add-result : goal.overflow_add-result
overflow_add-result c = omega (arith, upper_small (goal.at.overflow_add-result c).Start, left_small (goal.at.overflow_add-result c).Start)

pub overflow_add-result-2 : goal.overflow_add-result-2
overflow_add-result-2 c = omega (arith, upper_small (goal.at.overflow_add-result-2 c).Start, left_small (goal.at.overflow_add-result-2 c).Start, right_small (goal.at.overflow_add-result-2 c).Start)

pub overflow_add-result-3 : goal.overflow_add-result-3
overflow_add-result-3 c = omega (arith, upper_small (goal.at.overflow_add-result-3 c).Start, left_small (goal.at.overflow_add-result-3 c).Start, right_small (goal.at.overflow_add-result-3 c).Start, low_small (goal.at.overflow_add-result-3 c).Start)

pub returns : goal.returns
returns c = columns c.args.u c.args.v
