-- The result is 2 ^ 62 times the power of two of h: the five numbers are what the tables say of h's bits (`is_head` of Crown.antt).
-- No loop.
use Rattle.std.proofs.Common.{lt_of_le_of_lt, lit<, rules}
use Rattle.explog.proofs.Crown.{first_most, pair_most, three_most, is_head}
use Rattle.explog.proofs.log_near.root_power.Goals as goal

pub mul_shift62-requires : goal.mul_shift62-requires
mul_shift62-requires c = (
  lt_of_le_of_lt (first_most _ _ _ c.root_1.ensures.below c.root_2.ensures.below c.mul_shift62-head.ensures) (lit< tt),
  lt_of_le_of_lt (pair_most _ _ _ c.root_3.ensures.below c.root_4.ensures.below c.mul_shift62-tail.ensures) (lit< tt),
)

pub mul_shift62-requires-2 : goal.mul_shift62-requires-2
mul_shift62-requires-2 c =
    let q1 = first_most _ _ _ c.root_1.ensures.below c.root_2.ensures.below c.mul_shift62-head.ensures in
    let q2 = pair_most _ _ _ c.root_3.ensures.below c.root_4.ensures.below c.mul_shift62-tail.ensures in
    (lt_of_le_of_lt (three_most _ _ _ q1 q2 c.mul_shift62.ensures) (lit< tt), lt_of_le_of_lt c.root_5.ensures.below (lit< tt))

pub returns : goal.returns
returns c =
    is_head _ _ _ _ _ _ c.root_1.ensures c.root_2.ensures c.root_3.ensures c.root_4.ensures c.root_5.ensures
    _ _ _ c.mul_shift62-head.ensures c.mul_shift62-tail.ensures c.mul_shift62.ensures _ c.mul_shift62-2.ensures
