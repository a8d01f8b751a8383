-- Each turn goes to a later line, and answers of the lines that are left, from here on, make answers of all lines.
use Rattle.std.proofs.Common.{length, drop, ◌-◌}
use Rattle.std.specs.List.{FoldsTo}
use Rattle.say.specs.Called.{AnswersLine}
use Rattle.text.specs.Cut.{lines}
use Rattle.say.proofs.answers.Given as goal

abbrev pub invariant-loop-at : goal.invariant-loop-at
invariant-loop-at g l =
    goal.F-IsAlwaysCallable g l.answer
    × ((last : _) → FoldsTo (AnswersLine g.F.FnMut g.W.Write.contents) (l.answer, l.out) (lines (drop l.at l.list)) last
    → FoldsTo (AnswersLine g.F.FnMut g.W.Write.contents) (l.fn.answer, l.initial.out) (lines l.list) last)

abbrev pub decreases-loop-at : goal.decreases-loop-at
decreases-loop-at g l = length l.list - l.at
