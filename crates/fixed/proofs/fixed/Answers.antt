-- `fixed` meets its contract: twice the half, and what is left, which is at most two of 10^d.
-- Nothing here passes 2^54.
use Prim.Native.Nat.{◌+◌, ◌-◌, ◌*◌, ◌^◌, ◌<◌, ◌≤◌}
use native.Mathlib.Omega.{arith}
use native.Mathlib.Nat.{mod-lt, mod-le, div-le_self}
use lib.Pow.{pow_pos}
use Rattle.integers.proofs.Tens.{ten_pos, ten_le}
use Rattle.fixed.proofs.Scale.{fixed_is, left_small}
use borrow.Author.Rules.{rules}
use Rattle.fixed.proofs.fixed.Goals as goal
use Rattle.fixed.proofs.fixed.Goals.{After-above-halves, After-pow10-ten, After-scaled-p, After-under}

rest_lt : (c : After-under) → c.under.result < 2 ^ (c.args.t + 1)
rest_lt c = rw c.under.ensures (mod-lt c.args.m (pow_pos (c.args.t + 1)))

positive : (c : After-pow10-ten) → 0 < c.pow10-ten.result
positive c = rw c.pow10-ten.ensures (ten_pos c.args.d)

left_le : (c : After-scaled-p) → c.scaled-p.result ≤ 2 * 10 ^ 4
left_le c =
    let rest_lt : c.under.result < 2 ^ (c.args.t + 1) = rw c.under.ensures (mod-lt c.args.m (pow_pos (c.args.t + 1))) in
    rw c.scaled-p.ensures (left_small c.under.result c.args.t (10 ^ c.args.d) rest_lt (ten_le c.args.d 4 (omega arith)))

half_le : (c : After-above-halves) → c.above-halves.result < 2 ^ 54
half_le c = omega (arith, c.above-halves.ensures, div-le_self c.args.m (2 ^ (c.args.t + 1)))

pub scaled-p-requires : goal.scaled-p-requires
scaled-p-requires c = (omega (arith, c.under.ensures, mod-le c.args.m (2 ^ (c.args.t + 1))), rest_lt c, c.requires.2)

pub overflow_mul-result : goal.overflow_mul-result
overflow_mul-result c = omega (arith, half_le (goal.at.overflow_mul-result c).After-above-halves)

pub nonzero_div-result : goal.nonzero_div-result
nonzero_div-result c = positive c

pub overflow_add-result : goal.overflow_add-result
overflow_add-result c = omega (arith, half_le (goal.at.overflow_add-result c).After-above-halves, left_le (goal.at.overflow_add-result c).After-scaled-p, div-le_self c.scaled-p.result c.pow10-ten.result)

pub nonzero_rem-result : goal.nonzero_rem-result
nonzero_rem-result c = positive c

pub returns : goal.returns
returns c =
    fixed_is c.args.m c.args.t c.args.d c.above-halves.result c.under.result c.scaled-p.result c.pow10-ten.result
    c.above-halves.ensures c.under.ensures c.scaled-p.ensures c.pow10-ten.ensures (ten_pos c.args.d)
