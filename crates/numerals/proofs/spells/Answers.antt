-- `spells` meets its contract. The loop's invariant: what is left of both, from place i on, decides.
use mathlib.Core.Path.{sym, ◌∙◌}
use native.Mathlib.Omega.{arith}
use lib.ListN.{drop, length-drop}
use Rattle.numerals.proofs.Runs.{spelled_length, spelled_step, spelled_stop, spelled_end}
use Rattle.numerals.proofs.spells.Goals as goal

pub returns-then-s-from : goal.returns-then-s-from
returns-then-s-from c =
    sym (spelled_length (drop c.args.from c.args.s.now) c.args.w.now (λ e. c.if-s-from.true (sym (length-drop c.args.from c.args.s.now) ∙ e)))

pub returns-then-lower-c : goal.returns-then-lower-c
returns-then-lower-c c =
    sym
    (c.loop-i.invariant
    ∙ spelled_stop c.args.s.now c.args.w.now c.loop-i.i c.args.from (omega arith) (omega arith) (λ e. c.if-lower-c.true (c.lower.ensures ∙ e)))

pub loop-i-preserved : goal.loop-i-preserved
loop-i-preserved c =
    c.loop-i.invariant
    ∙ spelled_step c.args.s.now c.args.w.now c.loop-i.i c.args.from (omega arith) (omega arith) (sym c.lower.ensures ∙ c.if-lower-c.false)

pub returns : goal.returns
returns c = sym (c.loop-i.invariant ∙ spelled_end c.args.s.now c.args.w.now c.loop-i.i c.args.from (omega arith) (omega arith))
