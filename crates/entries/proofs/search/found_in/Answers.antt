-- `found_in` meets its contract: no items, 18, or the nearer neighbour.
-- Assumes nothing.
use mathlib.Core.Path.{◌∙◌, ap}
use native.Mathlib.Omega.{arith}
use Rattle.base.specs.Said.{gives}
use Rattle.entries.proofs.Opened.{found_none, found_beyond, found_near}
use Rattle.entries.proofs.search.found_in.Goals as goal

pub returns-then-s-eq0 : goal.returns-then-s-eq0
returns-then-s-eq0 c = ap gives c.found_of.ensures ∙ found_none c.args.s c.if-s-eq0.true

pub returns-then-aim : goal.returns-then-aim
returns-then-aim c = found_beyond c.args.s c.if-s-eq0.false c.if-aim.true

pub nearest-requires : goal.nearest-requires
nearest-requires c = c.requires.1.near c.requires.0 (omega (arith, c.if-s-eq0.false))

pub returns : goal.returns
returns c = c.nearest.ensures ∙ found_near c.args.s c.if-s-eq0.false c.if-aim.false
