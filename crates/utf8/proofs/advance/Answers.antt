-- `advance` answers the state after one more byte.
-- No loop.
use mathlib.Core.Path.{sym, ◌∙◌}
use Rattle.utf8.proofs.Utf8Steps.{step_lead, step_low, step_high, step_in}
use Rattle.utf8.proofs.advance.Goals as goal
use Rattle.utf8.proofs.advance.Goals.{then-b-st-via-then-b-st, then-b-st-via-else-b-st+then-st-b}

pub returns-then-st-eq0 : goal.returns-then-st-eq0
returns-then-st-eq0 c = c.lead.ensures ∙ sym (step_lead _ _ c.if-st-eq0.true)

pub returns-then-b-st : goal.returns-then-b-st
returns-then-b-st c =
    elim c.then-b-st.branch [
      | then-b-st-via-then-b-st w ↦ sym (step_low _ _ _ c.args.b c.if-st-eq0.false w.if-b-st.true)
      | then-b-st-via-else-b-st+then-st-b w ↦ sym (step_high _ _ _ c.args.b c.if-st-eq0.false w.if-b-st.false w.if-st-b.true)
    ]

pub returns : goal.returns
returns c = c.go.ensures ∙ sym (step_in _ _ _ _ c.if-st-eq0.false c.if-b-st.false c.if-st-b.false)
