-- `check` answers what the walk over the lines gives. The invariant: what is left to walk, after what was said so far,
-- gives the answer of the whole; a line has at least one byte, so its number stays in range.
use Rattle.base.specs.Said.{outcome}
use Rattle.std.proofs.lemmas.Result.{err_from_is_err_and}
use mathlib.Core.Path.{sym, ◌∙◌}
use native.Mathlib.Omega.{arith}
use Rattle.listing.proofs.Given.{walk_end, walk_turn}
use Rattle.text.proofs.Shown.{LineTurn, line_turn, said_end}
use Rattle.text.specs.ReadLine.{strictly}
use Rattle.kbm_read.specs.Reader.{take_meaning, finished}
use Rattle.kbm_read.proofs.check.Goals as goal
use Rattle.kbm_read.proofs.check.Goals.{After-read_line-says}

-- the line that a turn reads, and what is left after it
the_turn : (c : After-read_line-says) →
    LineTurn strictly c.args.text.now c.loop-at.at c.next_line-ends.result c.read_line-says.result
the_turn c = line_turn strictly _ _ c.loop-at-test.true c.next_line-ends.ensures c.read_line-says.ensures

pub take_line-requires : goal.take_line-requires
take_line-requires c = (the_turn (goal.at.take_line-requires c).After-read_line-says).parts

pub returns-in_err-state : goal.returns-in_err-state
returns-in_err-state c =
    let p = err_from_is_err_and c.from_residual.result c.from_residual.ensures.1 in
    let t = the_turn (goal.at.returns-in_err-state c).After-read_line-says in
    rw (p.1, p.2) (sym (c.loop-at.invariant.2 ∙ walk_turn (take_meaning _) (finished _) _ _ outcome t.first c.take_line.ensures c.in_err-state.was))

pub loop-at-smaller : goal.loop-at-smaller
loop-at-smaller c = let t = the_turn (goal.at.loop-at-smaller c).After-read_line-says in omega arith

pub loop-at-preserved : goal.loop-at-preserved
loop-at-preserved c =
    let t = the_turn (goal.at.loop-at-preserved c).After-read_line-says in
    (t.stays, omega arith, c.loop-at.invariant.2 ∙ walk_turn (take_meaning _) (finished _) _ _ outcome t.first c.take_line.ensures c.in_ok-state.was)

pub returns : goal.returns
returns c = c.finish.ensures ∙ sym (c.loop-at.invariant.2 ∙ walk_end (take_meaning _) (finished _) _ _ (said_end _ _ c.loop-at-test.false))
