-- `finish` meets its contract: 10, then what was found, then 11.
-- Assumes nothing.
use mathlib.Core.Path.{◌∙◌, ap}
use Rattle.std.proofs.lemmas.Bool.{not-true, not-false}
use Rattle.base.specs.Said.{Said, and_then}
use Rattle.searching.specs.declared.Found.{Found}
use Rattle.searching.specs.Degrees.{declared_of, ascending_of}
use Rattle.entries.proofs.Opened.{answer_unusable, answer_ascending, answer_declared}
use Rattle.entries.proofs.search.finish.Goals as goal

pub returns-then-not-s : goal.returns-then-not-s
returns-then-not-s c = answer_unusable c.args.s c.args.sorted (not-true c.args.s.usable c.if-not-s.true)

pub returns-then-sorted : goal.returns-then-sorted
returns-then-sorted c =
    c.ascending.ensures
    ∙ ap (λ (t : Said Found). and_then t (ascending_of c.args.s.count)) c.found_in-found.ensures
    ∙ answer_ascending c.args.s c.args.sorted (not-false c.args.s.usable c.if-not-s.false) c.if-sorted.true

pub returns-else-sorted : goal.returns-else-sorted
returns-else-sorted c =
    c.declared.ensures
    ∙ ap (λ (t : Said Found). and_then t (declared_of c.args.s.count)) c.found_in-found.ensures
    ∙ answer_declared c.args.s c.args.sorted (not-false c.args.s.usable c.if-not-s.false) c.if-sorted.false
