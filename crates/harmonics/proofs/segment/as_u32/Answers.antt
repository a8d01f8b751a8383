-- `as_u32` meets its contract: the machine's conversion below 2^32, the ends elsewhere.
-- Assumes nothing.
use Rattle.std.proofs.Common.{◌≡◌, ◌∙◌, arith}
use lib.Ieee.{of_bits, to_unsigned}
use lib.Ieee.Casts.{to_unsigned-lt}
use Rattle.floats.proofs.Order.{is_positive}
use Rattle.harmonics.proofs.Casts.{cast_asks, cast_under, cast_over, cast_none}
use Rattle.harmonics.proofs.segment.as_u32.Goals as goal
use Rattle.harmonics.proofs.segment.as_u32.Goals.{After-truncating_f64_to_u64}

cut : (c : After-truncating_f64_to_u64) → c.truncating_f64_to_u64.result ≡ to_unsigned 32 c.args.x
unfolding of_bits
cut c = c.truncating_f64_to_u64.ensures ∙ cast_under (is_positive c.args.x c.if-x.true) c.if-x-2.true

pub truncating_f64_to_u64-requires : goal.truncating_f64_to_u64-requires
unfolding of_bits
truncating_f64_to_u64-requires c =
    let within = cast_asks (is_positive c.args.x c.if-x.true) c.if-x-2.true in
    record { lower_bound = within.0; upper_bound = within.1 }

pub overflow_cast-result : goal.overflow_cast-result
overflow_cast-result c = omega (arith, cut c, to_unsigned-lt 32 c.args.x)

pub returns-then-x-2 : goal.returns-then-x-2
returns-then-x-2 c = cut c

pub returns-else-x-2 : goal.returns-else-x-2
unfolding of_bits
returns-else-x-2 c = cast_over (is_positive c.args.x c.if-x.true) c.if-x-2.false

pub returns-else-x : goal.returns-else-x
unfolding of_bits
returns-else-x c = cast_none c.args.x c.if-x.false
