-- The answer says L x: the parts of x, B from its digits, and the f64 nearest to ((e + 52) * 2 ^ 52 + B) / 2 ^ 52.
-- No loop; distance and sign are `log_side` of EndsL.antt.
use Rattle.std.proofs.Common.{◌≡◌, ℕ, ◌^◌, true, false, sym, ap, ◌∙◌, arith, rules}
use lib.Ieee.{binary64, round}
use Rattle.base.specs.Said.{gives}
use Rattle.floats.specs.Ranges.{in_reach}
use Rattle.explog.proofs.Range.{l_range}
use Rattle.explog.proofs.EndsL.{digits_full, log_side, log_refused}
use Rattle.explog.proofs.log2.Goals as goal
use Rattle.explog.proofs.log2.Goals.{Then-is_in_reach}

inside : (c : Then-is_in_reach) → in_reach c.args.x ≡ true
inside c = sym c.is_in_reach.ensures ∙ c.if-is_in_reach.true

pub unpack-parts-requires : goal.unpack-parts-requires
unpack-parts-requires c = (l_range _ (inside c)).0

pub near_log_bits-bits-requires : goal.near_log_bits-bits-requires
near_log_bits-bits-requires c = let n = digits_full _ _ _ _ c.unpack-parts.ensures (inside (goal.at.near_log_bits-bits-requires c).Then-is_in_reach) in (omega arith, omega (arith, c.unpack-parts.ensures.small))

pub returns-then-is_in_reach : goal.returns-then-is_in_reach
returns-then-is_in_reach c =
    ap gives c.on_side.ensures ∙ log_side _ _ _ _ _ c.unpack-parts.ensures (inside (goal.at.returns-then-is_in_reach c).Then-is_in_reach) c.well_formed.0.1 c.near_log_bits-bits.ensures.is _
    (c.nearest_ratio.ensures ∙ ap (λ (z : ℕ). round binary64 false z (2 ^ 52)) c.from_one.ensures)

pub returns-else-is_in_reach : goal.returns-else-is_in_reach
returns-else-is_in_reach c = log_refused _ (sym c.is_in_reach.ensures ∙ c.if-is_in_reach.false)
