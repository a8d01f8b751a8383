-- The result is the largest whole number not above x.
-- No loop; one law of Down.antt for each of the four ways.
use Rattle.std.proofs.Common.{◌≡◌, ℕ, ◌+◌, pos, ap, ◌∙◌, arith}
use lib.Ieee.{of_bits, neg, of_int, to_unsigned, binary64}
use Rattle.floats.proofs.Order.{negative}
use Rattle.floats.proofs.Down.{Low53, is_low53, low_requires, part_lt, floor_up, floor_same, floor_below, floor_rest}
use Rattle.floats.proofs.floor_of.Goals as goal
use Rattle.floats.proofs.floor_of.Goals.{After-nearest_u64_to_f64-t, Then-x-2}

low : (c : Then-x-2) → Low53 c.args.x
unfolding of_bits neg
low c = is_low53 (negative c.args.x c.if-x.true) c.if-x-2.true

near : (c : After-nearest_u64_to_f64-t) → c.nearest_u64_to_f64-t.result ≡ of_int binary64 (pos (to_unsigned 64 (neg c.args.x)))
near c = c.nearest_u64_to_f64-t.ensures ∙ ap (λ (n : ℕ). of_int binary64 (pos n)) c.truncating_f64_to_u64-n.ensures

pub truncating_f64_to_u64-n-requires : goal.truncating_f64_to_u64-n-requires
truncating_f64_to_u64-n-requires c =
    let within = low_requires (low (goal.at.truncating_f64_to_u64-n-requires c).Then-x-2) in
    record { lower_bound = within.0; upper_bound = within.1 }

pub overflow_add-n : goal.overflow_add-n
overflow_add-n c = rw c.truncating_f64_to_u64-n.ensures (omega (arith, part_lt (low (goal.at.overflow_add-n c).Then-x-2)))

pub returns-then-t-x : goal.returns-then-t-x
returns-then-t-x c =
    ap neg (c.nearest_u64_to_f64.ensures ∙ ap (λ (n : ℕ). of_int binary64 (pos (n + 1))) c.truncating_f64_to_u64-n.ensures)
    ∙ floor_up (low (goal.at.returns-then-t-x c).Then-x-2) (rw (near (goal.at.returns-then-t-x c).After-nearest_u64_to_f64-t) at c.if-t-x.true)

pub returns-else-t-x : goal.returns-else-t-x
returns-else-t-x c = ap neg (near (goal.at.returns-else-t-x c).After-nearest_u64_to_f64-t) ∙ floor_same (low (goal.at.returns-else-t-x c).Then-x-2) (rw (near (goal.at.returns-else-t-x c).After-nearest_u64_to_f64-t) at c.if-t-x.false)

pub returns-else-x-2 : goal.returns-else-x-2
unfolding of_bits neg
returns-else-x-2 c = floor_below (negative c.args.x c.if-x.true) c.well_formed.0.1 c.if-x-2.false

pub returns-else-x : goal.returns-else-x
unfolding of_bits
returns-else-x c = c.trunc_of.ensures ∙ floor_rest c.args.x c.well_formed.0.1 c.if-x.false
