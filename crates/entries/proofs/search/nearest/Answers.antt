-- `nearest` meets its contract: the definition, opened at the choice.
-- Assumes nothing.
use mathlib.Core.Path.{◌∙◌, ap}
use mir.Facts.{to_z-of_z}
use mir.Syntax.{w32}
use Rattle.std.proofs.lemmas.Result.{err_from_is_err_and}
use Rattle.base.specs.Numbers.{number_of}
use Rattle.base.specs.Said.{gives}
use Rattle.entries.proofs.Opened.{near_upper, near_lower, near_refused}
use borrow.Author.Rules.{rules}
use Rattle.entries.proofs.search.nearest.Goals as goal

pub returns-in_err-choice : goal.returns-in_err-choice
returns-in_err-choice c =
    let p = err_from_is_err_and c.from_residual.result c.from_residual.ensures.1 in
    let r = c.in_err-choice.field-0.0 in
    rw (p.1, p.2) (near_refused c.args.s (number_of r.reason) r.detail c.in_err-choice.ensures)

pub returns-then-choice : goal.returns-then-choice
returns-then-choice c =
    ap gives (rw (to_z-of_z {w = w32} {z = c.args.s.aim.periods} (search rules)) at c.found_of-found.ensures)
    ∙ near_upper c.args.s c.in_ok-choice.choice c.in_ok-choice.ensures c.if-choice.true

pub returns-else-choice : goal.returns-else-choice
returns-else-choice c =
    ap gives (rw (to_z-of_z {w = w32} {z = c.args.s.aim.periods} (search rules)) at c.found_of-found-else-choice.ensures)
    ∙ near_lower c.args.s c.in_ok-choice.choice c.in_ok-choice.ensures c.if-choice.false
