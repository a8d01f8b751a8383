-- The answer says E x: what `power` gives inside -900..900, else 18.
-- No loop.
use Rattle.std.proofs.Common.{sym, ◌∙◌, rules}
use Rattle.explog.proofs.EndsE.{power_refused}
use Rattle.explog.proofs.exp2.Goals as goal

pub power-requires : goal.power-requires
power-requires c = sym c.is_in_powers.ensures ∙ c.if-is_in_powers.true

pub returns-then-is_in_powers : goal.returns-then-is_in_powers
returns-then-is_in_powers c = c.power.ensures

pub returns-else-is_in_powers : goal.returns-else-is_in_powers
returns-else-is_in_powers c = power_refused _ (sym c.is_in_powers.ensures ∙ c.if-is_in_powers.false)
