-- `look` meets its contract: no items, the last one's refusal, or its reach.
-- Assumes nothing.
use Rattle.std.proofs.Common.{sym, ◌∙◌, arith}
use Rattle.std.proofs.lemmas.Grind.{common_steps}
use Rattle.harmonics.proofs.Plans.{look_none, look_refused, look_given, last_usable}
use Rattle.harmonics.proofs.look.Goals as goal

pub returns-then-n-eq0 : goal.returns-then-n-eq0
returns-then-n-eq0 c = look_none c.args.segment_type c.args.start c.args.size c.requires.0 (omega (arith, c.well_formed)) (omega (arith, c.well_formed)) c.args.n (omega (arith, c.well_formed)) c.args.steps c.requires.1 c.if-n-eq0.true

pub is_beyond-requires : goal.is_beyond-requires
is_beyond-requires c = last_usable c.args.segment_type c.args.start c.args.size c.requires.0 (omega (arith, c.well_formed)) (omega (arith, c.well_formed)) c.args.n (omega (arith, c.well_formed)) c.args.steps c.requires.1 c.in_ok-item.ensures

pub returns-then-is_beyond : goal.returns-then-is_beyond
returns-then-is_beyond c = sym (look_given c.args.segment_type c.args.start c.args.size c.requires.0 (omega (arith, c.well_formed)) (omega (arith, c.well_formed)) c.args.n (omega (arith, c.well_formed)) c.args.steps c.requires.1 (omega (arith, c.if-n-eq0.false)) c.in_ok-item.ensures (sym c.if-is_beyond.true ∙ c.is_beyond.ensures))

pub returns-in_err-item : goal.returns-in_err-item
returns-in_err-item c =
    let x = look_refused c.args.segment_type c.args.start c.args.size c.requires.0 (omega (arith, c.well_formed)) (omega (arith, c.well_formed)) c.args.n (omega (arith, c.well_formed)) c.args.steps c.requires.1 (omega (arith, c.if-n-eq0.false)) c.in_err-item.ensures in
    grind (arith, common_steps, x)

pub returns : goal.returns
returns c = sym (look_given c.args.segment_type c.args.start c.args.size c.requires.0 (omega (arith, c.well_formed)) (omega (arith, c.well_formed)) c.args.n (omega (arith, c.well_formed)) c.args.steps c.requires.1 (omega (arith, c.if-n-eq0.false)) c.in_ok-item.ensures (sym c.if-is_beyond.false ∙ c.is_beyond.ensures))
