-- `math::i32_rem_u` meets its contract: 10 where the denominator is 0, else what `remainder` answers.
-- Assumes nothing.
use borrow.Author.Rules.{rules}
use borrow.Author.Tests.{eq-eqb, ne_eqb}
use mathlib.Core.Path.{ap}
use mir.Facts.{to_z-of_z}
use Rattle.base.specs.Said.{gives}
use Rattle.math.specs.Division.{remainder_of}
use Rattle.math.proofs.i32_rem_u.Goals as goal

pub returns-then-denom-eq0 : goal.returns-then-denom-eq0
unfolding remainder_of
returns-then-denom-eq0 c = rw (eq-eqb c.args.denom 0 c.if-denom-eq0.true)

pub returns : goal.returns
unfolding remainder_of
returns c =
    rw (ne_eqb c.args.denom 0 c.if-denom-eq0.false)
    (ap gives (rw (to_z-of_z c.ranges.numer) at c.remainder.ensures))
