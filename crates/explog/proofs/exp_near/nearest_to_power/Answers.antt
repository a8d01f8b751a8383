-- The result is the f64 nearest to P * 2 ^ (n - 1086): by `near_rounds` of Theorems.antt where the test holds, else from P itself.
-- No loop.
use Rattle.std.proofs.Common.{ℕ, ◌*◌, ◌^◌, false, ap, ◌∙◌, arith, rules}
use lib.Ieee.{binary64, round}
use Rattle.powers.proofs.Bound.{power_below}
use Rattle.explog.proofs.Theorems.{near_rounds, ones_few, no_nan_there}
use Rattle.explog.proofs.exp_near.nearest_to_power.Goals as goal

pub overflow_cast-set : goal.overflow_cast-set
overflow_cast-set c = let n = ones_few c.args.b (omega (arith, c.well_formed)) in search rules

pub overflow_sub-moved : goal.overflow_sub-moved
overflow_sub-moved c = omega (arith, ones_few c.args.b (omega (arith, c.well_formed)))

pub overflow_sub-set : goal.overflow_sub-set
overflow_sub-set c = omega (arith, ones_few c.args.b (omega (arith, c.well_formed)))

pub float_from_bits-result : goal.float_from_bits-result
float_from_bits-result c = no_nan_there _ _ _ c.near_power.ensures.below (omega arith) c.requires.1

pub nearest_power-requires : goal.nearest_power-requires
nearest_power-requires c =
    record {
      digits = (c.power_bits.ensures.above, power_below _ 52 _ (omega arith) c.power_bits.ensures);
      exponent = c.requires;
    }

pub returns-then-moved-set : goal.returns-then-moved-set
returns-then-moved-set c =
    let n = ones_few c.args.b (omega (arith, c.well_formed)) in
    near_rounds c.args.b _ _ _ _ (omega (arith, n)) (omega (arith, n)) c.requires.0 c.requires.1 c.near_power.ensures c.if-moved-set.true

pub returns-else-moved-set : goal.returns-else-moved-set
returns-else-moved-set c = c.nearest_power.ensures ∙ ap (λ (x : ℕ). round binary64 false (x * 2 ^ c.args.n) (2 ^ 1086)) c.power_bits.ensures.is
