-- `math::i32_div_u` meets its contract: 10 where the denominator is 0, else what `quotient` answers.
-- Assumes nothing.
use borrow.Author.Rules.{rules}
use borrow.Author.Tests.{eq-eqb, ne_eqb}
use mathlib.Core.Path.{ap}
use Rattle.base.specs.Integers.{floor_div}
use Rattle.base.specs.Said.{gives}
use Rattle.base.proofs.Machine.{told}
use mir.Syntax.{w32}
use Rattle.math.specs.Division.{quotient_of}
use Rattle.math.proofs.i32_div_u.Goals as goal

pub returns-then-denom-eq0 : goal.returns-then-denom-eq0
unfolding quotient_of
returns-then-denom-eq0 c = rw (eq-eqb c.args.denom 0 c.if-denom-eq0.true)

pub returns : goal.returns
unfolding quotient_of
returns c =
    rw (ne_eqb c.args.denom 0 c.if-denom-eq0.false)
    (ap gives (told {w' = w32} (λ z. floor_div z c.args.denom) c.ranges.numer (record { sfits = c.quotient.type_inv }) c.quotient.ensures))
