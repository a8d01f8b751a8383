-- `next_line` answers where the line from `at` on ends, and where the next one starts.
-- Invariant: the cut of the text from `at` on is that of the rest from `i` on.
use mathlib.Core.Path.{◌≡◌, sym, ◌∙◌}
use native.Mathlib.Omega.{arith}
use mathlib.Core.Bool.{false}
use Prim.Native.Nat.{◌+◌}
use lib.ListN.{drop, get_or}
use Rattle.text.specs.Cut.{is_cr}
use Rattle.text.proofs.Cuts.{cut_pass, cut_lf, cut_crlf, cut_on, cut_end, no_cr, cr_last, cr_alone}
use Rattle.text.proofs.lines.next_line.Goals as goal
use Rattle.text.proofs.lines.next_line.Goals.{else-b-eq13-via-then-b-eq13+then-text-i-gt1+else-text-i-eq10, else-b-eq13-via-then-b-eq13+else-text-i-gt1, else-b-eq13-via-else-b-eq13}

pub loop-i-init : goal.loop-i-init
loop-i-init c = (c.pass-i.ensures.onward, cut_pass c.pass-i.ensures)

pub returns-then-b-eq10 : goal.returns-then-b-eq10
returns-then-b-eq10 c = cut_lf _ _ c.loop-i-test.true c.if-b-eq10.true ∙ sym c.loop-i.invariant.1

pub returns-then-text-i-eq10 : goal.returns-then-text-i-eq10
returns-then-text-i-eq10 c = cut_crlf _ _ c.loop-i-test.true c.if-b-eq13.true (omega arith) c.if-text-i-eq10.true ∙ sym c.loop-i.invariant.1

pub loop-i-preserved : goal.loop-i-preserved
loop-i-preserved c =
    let s = c.args.text.now in
    let i = c.loop-i.i in
    let no_end : is_cr (get_or s i 0) (drop (i + 1) s) ≡ false =
    elim c.else-b-eq13.branch [
      | else-b-eq13-via-then-b-eq13+then-text-i-gt1+else-text-i-eq10 w ↦ cr_alone s i c.loop-i-test.true w.if-b-eq13.true (omega (arith, w.if-text-i-gt1.true)) w.if-text-i-eq10.false
      | else-b-eq13-via-then-b-eq13+else-text-i-gt1 w ↦ cr_last s i c.loop-i-test.true w.if-b-eq13.true (omega (arith, w.if-text-i-gt1.false))
      | else-b-eq13-via-else-b-eq13 w ↦ no_cr s i c.loop-i-test.true w.if-b-eq13.false
    ]
    in
    (omega arith, c.loop-i.invariant.1 ∙ cut_on _ _ c.loop-i-test.true c.if-b-eq10.false no_end)

pub returns : goal.returns
returns c = cut_end _ _ c.loop-i-test.false ∙ sym c.loop-i.invariant.1
