-- `length_of` meets its contract: sign, digits, dot and decimals.
-- Each sum is at most 25.
use native.Mathlib.Omega.{arith}
use Rattle.printing.proofs.Texts.{sign_le, point_le}
use borrow.Author.Rules.{rules}
use Rattle.printing.proofs.length_of.Goals as goal

pub overflow_add-result : goal.overflow_add-result
overflow_add-result c = omega (arith, c.point_length.ensures, point_le c.args.d)

pub overflow_add-result-2 : goal.overflow_add-result-2
overflow_add-result-2 c = omega (arith, c.point_length.ensures, point_le c.args.d)

pub overflow_add-result-3 : goal.overflow_add-result-3
overflow_add-result-3 c = omega (arith, c.point_length.ensures, point_le c.args.d, c.sign_length.ensures, sign_le c.args.negative c.args.plus)
