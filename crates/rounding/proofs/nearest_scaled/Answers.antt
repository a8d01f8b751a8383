-- The result is the f64 nearest to n * 2 ^ up / e.
-- No loop; the assembled bits are `scaled_bits` of Assemble.antt.
use Rattle.std.proofs.Common.{ℕ, ◌+◌, ◌-◌, ◌*◌, ◌^◌, ◌≤◌, ap, ◌∙◌, arith, rules}
use lib.Ieee.{of_bits, binary64}
use Rattle.rounding.proofs.Nearest.{half_high}
use Rattle.rounding.proofs.Assemble.{scaled_bits, no_nan}
use Rattle.rounding.proofs.nearest_scaled.Goals as goal
use Rattle.rounding.proofs.nearest_scaled.Goals.{After-rounded_half-m}

small : (c : After-rounded_half-m) → c.rounded_half-m.result ≤ 2 ^ 53
small c = rw c.rounded_half-m.ensures (half_high c.divide-d.result.q c.divide-d.result.rest c.divide-d.ensures.high)

pub overflow_add-result : goal.overflow_add-result
overflow_add-result c = omega (arith, small (goal.at.overflow_add-result c).After-rounded_half-m)

pub float_from_bits-result : goal.float_from_bits-result
float_from_bits-result c = no_nan _ (omega (arith, small (goal.at.float_from_bits-result c).After-rounded_half-m))

pub returns : goal.returns
returns c =
    ap (λ (m : ℕ). of_bits binary64 ((1075 + c.args.up - c.divide-d.result.steps) * 2 ^ 52 + m)) c.rounded_half-m.ensures
    ∙ scaled_bits c.args.n c.args.e c.args.up c.divide-d.result.steps c.divide-d.result.q c.divide-d.result.rest c.requires.1 c.divide-d.ensures.exact c.divide-d.ensures.small c.divide-d.ensures.low c.divide-d.ensures.high c.divide-d.ensures.few c.requires.4
