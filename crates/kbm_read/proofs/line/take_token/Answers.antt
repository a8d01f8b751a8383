-- `take_token` meets its contract: the line that is due says what the token is read as.
-- No loop: what the numeral's reader answered goes through the law of its line.
use Rattle.std.proofs.Common.{rules, ◌∙◌}
use Rattle.std.proofs.lemmas.Result.{err_from_is_err_and}
use mir.Facts.{to_z-of_z}
use mir.Syntax.{w16, w32}
use mir.Val.{SFits}
use Rattle.kbm_read.proofs.Takes.{said_err, said_ok, pitch_refused, pitch_is, pitch_out, due_step}
use Rattle.kbm_read.proofs.line.take_token.Goals as goal

pub returns-in_err-head-in-Size : goal.returns-in_err-head-in-Size
returns-in_err-head-in-Size c =
    let p = err_from_is_err_and c.from_residual.result c.from_residual.ensures.1 in
    rw (p.1, p.2) (said_err _ _ c.in_err-head-in-Size.ensures ∙ due_step _ _ _ _ c.in-Size.is)

pub returns-in_ok-head-in-Size : goal.returns-in_ok-head-in-Size
returns-in_ok-head-in-Size c = c.goes_on.ensures ∙ said_ok _ c.in_ok-head-in-Size.ensures ∙ due_step _ _ _ _ c.in-Size.is

pub returns-in_err-head-in-FirstKey : goal.returns-in_err-head-in-FirstKey
returns-in_err-head-in-FirstKey c =
    let p = err_from_is_err_and c.from_residual-in_err-head-in-FirstKey.result c.from_residual-in_err-head-in-FirstKey.ensures.1 in
    rw (p.1, p.2) (said_err _ _ c.in_err-head-in-FirstKey.ensures ∙ due_step _ _ _ _ c.in-FirstKey.is)

pub returns-in_ok-head-in-FirstKey : goal.returns-in_ok-head-in-FirstKey
returns-in_ok-head-in-FirstKey c =
    let f : SFits w32 c.in_ok-head-in-FirstKey.field-0 = search rules in
    (rw (to_z-of_z f) at c.goes_on-in-FirstKey.ensures) ∙ said_ok _ c.in_ok-head-in-FirstKey.ensures ∙ due_step _ _ _ _ c.in-FirstKey.is

pub returns-in_err-last-in-LastKey : goal.returns-in_err-last-in-LastKey
returns-in_err-last-in-LastKey c =
    let p = err_from_is_err_and c.from_residual-in_err-last-in-LastKey.result c.from_residual-in_err-last-in-LastKey.ensures.1 in
    rw (p.1, p.2) (said_err _ _ c.in_err-last-in-LastKey.ensures ∙ due_step _ _ _ _ c.in-LastKey.is)

pub returns-in_ok-last-in-LastKey : goal.returns-in_ok-last-in-LastKey
returns-in_ok-last-in-LastKey c =
    let f : SFits w32 c.in_ok-last-in-LastKey.last = search rules in
    (rw (to_z-of_z f) at c.take_last.ensures) ∙ said_ok _ c.in_ok-last-in-LastKey.ensures ∙ due_step _ _ _ _ c.in-LastKey.is

pub returns-in_err-head-in-MiddleKey : goal.returns-in_err-head-in-MiddleKey
returns-in_err-head-in-MiddleKey c =
    let p = err_from_is_err_and c.from_residual-in_err-head-in-MiddleKey.result c.from_residual-in_err-head-in-MiddleKey.ensures.1 in
    rw (p.1, p.2) (said_err _ _ c.in_err-head-in-MiddleKey.ensures ∙ due_step _ _ _ _ c.in-MiddleKey.is)

pub returns-in_ok-head-in-MiddleKey : goal.returns-in_ok-head-in-MiddleKey
returns-in_ok-head-in-MiddleKey c =
    let f : SFits w16 c.in_ok-head-in-MiddleKey.field-0 = search rules in
    (rw (to_z-of_z f) at c.goes_on-in-MiddleKey.ensures) ∙ said_ok _ c.in_ok-head-in-MiddleKey.ensures ∙ due_step _ _ _ _ c.in-MiddleKey.is

pub returns-in_err-head-in-ReferenceKey : goal.returns-in_err-head-in-ReferenceKey
returns-in_err-head-in-ReferenceKey c =
    let p = err_from_is_err_and c.from_residual-in_err-head-in-ReferenceKey.result c.from_residual-in_err-head-in-ReferenceKey.ensures.1 in
    rw (p.1, p.2) (said_err _ _ c.in_err-head-in-ReferenceKey.ensures ∙ due_step _ _ _ _ c.in-ReferenceKey.is)

pub returns-in_ok-head-in-ReferenceKey : goal.returns-in_ok-head-in-ReferenceKey
returns-in_ok-head-in-ReferenceKey c =
    let f : SFits w16 c.in_ok-head-in-ReferenceKey.field-0 = search rules in
    (rw (to_z-of_z f) at c.goes_on-in-ReferenceKey.ensures) ∙ said_ok _ c.in_ok-head-in-ReferenceKey.ensures ∙ due_step _ _ _ _ c.in-ReferenceKey.is

pub returns-in_err-head-in-Octave : goal.returns-in_err-head-in-Octave
returns-in_err-head-in-Octave c =
    let p = err_from_is_err_and c.from_residual-in_err-head-in-Octave.result c.from_residual-in_err-head-in-Octave.ensures.1 in
    rw (p.1, p.2) (said_err _ _ c.in_err-head-in-Octave.ensures ∙ due_step _ _ _ _ c.in-Octave.is)

pub returns-in_ok-head-in-Octave : goal.returns-in_ok-head-in-Octave
returns-in_ok-head-in-Octave c =
    let f : SFits w16 c.in_ok-head-in-Octave.field-0 = search rules in
    (rw (to_z-of_z f) at c.goes_on-in-Octave.ensures) ∙ said_ok _ c.in_ok-head-in-Octave.ensures ∙ due_step _ _ _ _ c.in-Octave.is

pub returns-in_err-hz-in-ReferencePitch : goal.returns-in_err-hz-in-ReferencePitch
returns-in_err-hz-in-ReferencePitch c =
    let r = c.from_residual-in_err-hz-in-ReferencePitch in
    let p = err_from_is_err_and r.result r.ensures.1 in
    rw (p.1, p.2) (pitch_refused _ _ c.args.state.head _ c.in_err-hz-in-ReferencePitch.ensures ∙ due_step _ _ _ _ c.in-ReferencePitch.is)

pub returns-then-not-is_in_pitch : goal.returns-then-not-is_in_pitch
returns-then-not-is_in_pitch c =
    rw c.refused.ensures
    (pitch_out _ _ c.args.state.head c.in_ok-hz-in-ReferencePitch.ensures c.is_in_pitch.ensures c.if-not-is_in_pitch.true ∙ due_step _ _ _ _ c.in-ReferencePitch.is)

pub returns-else-not-is_in_pitch : goal.returns-else-not-is_in_pitch
returns-else-not-is_in_pitch c =
    c.goes_on-in-ReferencePitch.ensures
    ∙ pitch_is _ _ c.args.state.head c.in_ok-hz-in-ReferencePitch.ensures c.is_in_pitch.ensures c.if-not-is_in_pitch.false
    ∙ due_step _ _ _ _ c.in-ReferencePitch.is

pub returns-in-Entries : goal.returns-in-Entries
returns-in-Entries c = c.take_entry.ensures ∙ due_step _ _ _ _ c.in-Entries.is
