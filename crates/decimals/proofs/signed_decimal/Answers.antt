-- `signed_decimal` meets its contract: the sign of a rounded number is only carried along.
-- Each return rewrites with the sign.
use Rattle.std.proofs.Common.{◌^◌, false, ap, ◌∙◌}
use lib.Ieee.{neg, binary64}
use Rattle.floats.proofs.Sign.{round_neg}
use Rattle.decimals.proofs.signed_decimal.Goals as goal

pub returns-then-negative : goal.returns-then-negative
returns-then-negative c = rw c.if-negative.true (ap neg c.nearest_decimal-x.ensures ∙ round_neg binary64 false c.args.n (10 ^ c.args.k))

pub returns-else-negative : goal.returns-else-negative
returns-else-negative c = rw c.if-negative.false c.nearest_decimal-x.ensures
