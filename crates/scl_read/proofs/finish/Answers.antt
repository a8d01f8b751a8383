-- `finish` meets its contract: 2, 13, 14, 18, or the scale. No loop.
use mathlib.Core.Path.{◌≡◌, ap, sym, ◌∙◌}
use Rattle.base.specs.Said.{gives}
use Rattle.scl_read.proofs.Finishes.{finish_missing, finish_large, finish_count, finish_beyond, finish_is}
use Rattle.scl_read.proofs.finish.Goals as goal

pub returns-then-missing-gt0 : goal.returns-then-missing-gt0
returns-then-missing-gt0 c = c.refused.ensures ∙ finish_missing _ c.which_of-missing.ensures c.if-missing-gt0.true

pub returns-then-count-gt-MOST : goal.returns-then-count-gt-MOST
returns-then-count-gt-MOST c = c.refused-then-count-gt-MOST.ensures ∙ finish_large _ c.which_of-missing.ensures c.if-missing-gt0.false c.if-count-gt-MOST.true

pub returns-then-is_beyond : goal.returns-then-is_beyond
returns-then-is_beyond c = c.refused-then-is_beyond.ensures ∙ finish_beyond _ c.which_of-missing.ensures c.if-missing-gt0.false c.if-count-gt-MOST.false (c.if-count-from.false ∙ c.from.ensures) c.is_beyond.ensures c.if-is_beyond.true

pub returns-then-count-from : goal.returns-then-count-from
returns-then-count-from c = c.refused-then-count-from.ensures ∙ finish_count _ c.which_of-missing.ensures c.if-missing-gt0.false c.if-count-gt-MOST.false (λ e. c.if-count-from.true (e ∙ sym c.from.ensures))

pub returns : goal.returns
returns c =
    let e : c.args.state.count ≡ c.args.state.declared = c.if-count-from.false ∙ c.from.ensures in
    ap gives (sym e) ∙ finish_is _ c.which_of-missing.ensures c.if-missing-gt0.false c.if-count-gt-MOST.false e c.is_beyond.ensures c.if-is_beyond.false
