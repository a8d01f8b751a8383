-- `periods_of` meets its contract: 0 with no items, else the quotient rounded down.
-- Assumes nothing.
use mathlib.Core.Path.{◌∙◌}
use mir.Syntax.{w32}
use Rattle.base.specs.Integers.{floor_div}
use Rattle.base.proofs.Machine.{told}
use Rattle.relative.proofs.Opened.{periods_none, periods_some}
use Rattle.relative.proofs.periods_of.Goals as goal

pub returns-then-count-eq0 : goal.returns-then-count-eq0
returns-then-count-eq0 c = periods_none c.args.count c.args.degree c.if-count-eq0.true

pub returns : goal.returns
returns c = told {w = w32} {w' = w32} (λ z. floor_div z c.args.count) c.ranges.degree (record { sfits = c.quotient.type_inv }) (rw c.from.ensures at c.quotient.ensures) ∙ periods_some c.args.count c.args.degree c.if-count-eq0.false
