-- A line lies in the list, and the next starts behind its start; its answer, and then those of the lines behind it, answer all from it on.
use Rattle.std.proofs.Common.{rules, of_calls, arith, refl, drop_of_length-le}
use Rattle.std.proofs.lemmas.Fn.{Called-on}
use Rattle.text.proofs.Cuts.{turn}
use Rattle.text.specs.Cut.{lines}
use Rattle.say.proofs.Answered.{answered_line}
use Rattle.say.proofs.answers.Goals as goal

pub slice_bounds-answer-count : goal.slice_bounds-answer-count
slice_bounds-answer-count g c = (turn _ _ c.loop-at-test.true c.next_line-ends.ensures).starts

pub slice_bounds-answer-start : goal.slice_bounds-answer-start
slice_bounds-answer-start g c = search (rules, turn _ _ c.loop-at-test.true c.next_line-ends.ensures)

pub slice_bounds-answer-end : goal.slice_bounds-answer-end
slice_bounds-answer-end g c = (turn _ _ c.loop-at-test.true c.next_line-ends.ensures).ends

pub loop-at-smaller : goal.loop-at-smaller
loop-at-smaller g c = let t = turn _ _ c.loop-at-test.true c.next_line-ends.ensures in omega (arith, t.moves, c.loop-at-test.true)

pub loop-at-preserved : goal.loop-at-preserved
loop-at-preserved g c =
    let t = turn _ _ c.loop-at-test.true c.next_line-ends.ensures in
    let said = Called-on g.F.FnMut c.answer.ensures c.in_ok-answer.was in (
      search of_calls,
      λ last rest. c.loop-at.invariant.1 last
          (answered_line g.F.FnMut g.W.Write.contents _ _ t _ _ _ refl _ _ _ said (search rules) last rest),
    )

pub returns : goal.returns
unfolding lines
returns g c = (c.loop-at.answer, c.loop-at.invariant.1 _ (rw (drop_of_length-le c.args.list.now c.loop-at-test.false) refl))
