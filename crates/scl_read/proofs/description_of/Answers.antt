-- `description_of` answers the first line with content. The invariant: it is still ahead.
use native.Mathlib.Omega.{arith}
use Rattle.text.proofs.Shown.{LineTurn, line_turn}
use Rattle.text.specs.ReadLine.{strictly}
use Rattle.scl_read.proofs.Describes.{ahead_start, ahead_end, past_invalid, past_blank, past_comment, at_content}
use Rattle.scl_read.proofs.description_of.Goals as goal
use Rattle.scl_read.proofs.description_of.Goals.{After-read_line-says}

pub loop-at-init : goal.loop-at-init
loop-at-init c = (omega arith, ahead_start _)

-- the line that a turn reads
the_turn : (c : After-read_line-says) →
    LineTurn strictly c.args.text.now c.loop-at.at c.next_line-ends.result c.read_line-says.result
the_turn c = line_turn strictly _ _ c.loop-at-test.true c.next_line-ends.ensures c.read_line-says.ensures

pub returns-in-Content : goal.returns-in-Content
returns-in-Content c = at_content _ _ c.loop-at.invariant.1 c.loop-at-test.true c.next_line-ends.ensures c.read_line-says.ensures c.in-Content.is

pub loop-at-smaller-in-NotUtf8 : goal.loop-at-smaller-in-NotUtf8
loop-at-smaller-in-NotUtf8 c = let t = the_turn (goal.at.loop-at-smaller-in-NotUtf8 c).After-read_line-says in omega (arith, t.moves, t.stays)

pub loop-at-preserved-in-NotUtf8 : goal.loop-at-preserved-in-NotUtf8
loop-at-preserved-in-NotUtf8 c = ((the_turn (goal.at.loop-at-preserved-in-NotUtf8 c).After-read_line-says).stays, past_invalid _ _ c.loop-at.invariant.1 c.loop-at-test.true c.next_line-ends.ensures c.read_line-says.ensures c.in-NotUtf8.is)

pub loop-at-smaller-in-Blank : goal.loop-at-smaller-in-Blank
loop-at-smaller-in-Blank c = let t = the_turn (goal.at.loop-at-smaller-in-Blank c).After-read_line-says in omega (arith, t.moves, t.stays)

pub loop-at-preserved-in-Blank : goal.loop-at-preserved-in-Blank
loop-at-preserved-in-Blank c = ((the_turn (goal.at.loop-at-preserved-in-Blank c).After-read_line-says).stays, past_blank _ _ c.loop-at.invariant.1 c.loop-at-test.true c.next_line-ends.ensures c.read_line-says.ensures c.in-Blank.is)

pub loop-at-smaller : goal.loop-at-smaller
loop-at-smaller c = let t = the_turn (goal.at.loop-at-smaller c).After-read_line-says in omega (arith, t.moves, t.stays)

pub loop-at-preserved : goal.loop-at-preserved
loop-at-preserved c = ((the_turn (goal.at.loop-at-preserved c).After-read_line-says).stays, past_comment _ _ c.loop-at.invariant.1 c.loop-at-test.true c.next_line-ends.ensures c.read_line-says.ensures c.in-Comment.is)

pub returns : goal.returns
returns c = ahead_end _ _ c.loop-at.invariant.1 c.loop-at-test.false
