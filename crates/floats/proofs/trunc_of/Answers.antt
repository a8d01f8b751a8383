-- The result is the whole part of x: inside 2 ^ 64 the machine's conversion, outside x itself.
-- No loop; one law of Whole.antt for each of the five ways.
use Rattle.std.proofs.Common.{ℕ, T, pos, sym, ap, ◌∙◌, subst}
use lib.Ieee.{of_bits, neg, of_int, binary64}
use Rattle.floats.proofs.Order.{is_positive, negative, above_minus_one, neg_positive}
use Rattle.floats.proofs.Whole.{trunc_under, trunc_over, neg_top, neg_trunc, trunc_below, trunc_rest}
use Rattle.floats.proofs.trunc_of.Goals as goal

pub truncating_f64_to_u64-requires : goal.truncating_f64_to_u64-requires
unfolding of_bits
truncating_f64_to_u64-requires c = record { lower_bound = above_minus_one (is_positive c.args.x c.if-x.true); upper_bound = subst T (sym c.if-x-2.true) tt }

pub truncating_f64_to_u64-requires-then-x-4 : goal.truncating_f64_to_u64-requires-then-x-4
unfolding of_bits neg
truncating_f64_to_u64-requires-then-x-4 c =
    let n = negative c.args.x c.if-x-3.true in
    record { lower_bound = above_minus_one (neg_positive n); upper_bound = subst T (sym (neg_top n c.if-x-4.true)) tt }

pub returns-then-x-2 : goal.returns-then-x-2
unfolding of_bits
returns-then-x-2 c =
    c.nearest_u64_to_f64.ensures
    ∙ ap (λ (n : ℕ). of_int binary64 (pos n)) c.truncating_f64_to_u64.ensures
    ∙ trunc_under (is_positive c.args.x c.if-x.true) c.if-x-2.true

pub returns-else-x-2 : goal.returns-else-x-2
unfolding of_bits
returns-else-x-2 c = trunc_over (is_positive c.args.x c.if-x.true) c.well_formed.0.1 c.if-x-2.false

pub returns-then-x-4 : goal.returns-then-x-4
unfolding of_bits neg
returns-then-x-4 c =
    let n = negative c.args.x c.if-x-3.true in
    ap neg (c.nearest_u64_to_f64-then-x-4.ensures
    ∙ ap (λ (k : ℕ). of_int binary64 (pos k)) c.truncating_f64_to_u64-then-x-4.ensures
    ∙ trunc_under (neg_positive n) (neg_top n c.if-x-4.true))
    ∙ neg_trunc n

pub returns-else-x-4 : goal.returns-else-x-4
unfolding of_bits neg
returns-else-x-4 c = trunc_below (negative c.args.x c.if-x-3.true) c.well_formed.0.1 c.if-x-4.false

pub returns-else-x-3 : goal.returns-else-x-3
unfolding of_bits
returns-else-x-3 c = trunc_rest c.args.x c.well_formed.0.1 c.if-x.false c.if-x-3.false
