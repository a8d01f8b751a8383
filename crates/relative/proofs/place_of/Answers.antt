-- `place_of` meets its contract: 0 with no items, else what the quotient leaves.
-- Assumes nothing.
use mir.Facts.{to_z-of_z}
use Rattle.relative.proofs.Opened.{place_none, place_some}
use Rattle.relative.proofs.place_of.Goals as goal

pub returns-then-count-eq0 : goal.returns-then-count-eq0
returns-then-count-eq0 c = place_none c.args.count c.args.degree c.if-count-eq0.true

pub returns : goal.returns
returns c = rw (rw (to_z-of_z c.ranges.degree, c.from.ensures) at c.remainder.ensures) (place_some c.args.count c.args.degree c.if-count-eq0.false)
