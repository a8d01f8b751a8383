-- `push_all` meets its contract. The invariant: the pushes that are left make of the state what all pushes make of the first one.
-- Assumes nothing.
use Rattle.std.proofs.Common.{◌+◌, sym, ◌∙◌, arith}
use Rattle.scl.specs.Table.{item_table}
use Rattle.scl_build.specs.Builder.{beside}
use Rattle.harmonics.specs.Harmonics.{item_at}
use Rattle.generate.proofs.Kept.{kept_all, kept_on}
use Rattle.harmonics.proofs.Pushes.{said_kept, none_pushed, one_pushed, all_pushed}
use Rattle.harmonics.proofs.push_all.Goals as goal

pub loop-i-init : goal.loop-i-init
loop-i-init c = (omega arith, kept_all _, none_pushed _ _ _)

pub loop-i-preserved : goal.loop-i-preserved
loop-i-preserved c =
    let f = item_at c.args.segment_type c.args.start c.args.size c.args.steps in
    (omega (arith, c.loop-i-test.true), kept_on (said_kept (beside c.loop-i.builder (item_table c.loop-i.kind c.loop-i.cents c.loop-i.numer c.loop-i.denom)) (f (c.loop-i.i + 1)) c.push_at-builder.ensures) c.loop-i.invariant.1, one_pushed f c.args.n c.loop-i.i (beside c.loop-i.builder (item_table c.loop-i.kind c.loop-i.cents c.loop-i.numer c.loop-i.denom)) c.loop-i-test.true c.push_at-builder.ensures ∙ c.loop-i.invariant.2)

pub shape_of-kind : goal.shape_of-kind
shape_of-kind c = c.loop-i.invariant.1.kinds

pub shape_of-cents : goal.shape_of-cents
shape_of-cents c = c.loop-i.invariant.1.cents

pub shape_of-numer : goal.shape_of-numer
shape_of-numer c = c.loop-i.invariant.1.numers

pub shape_of-denom : goal.shape_of-denom
shape_of-denom c = c.loop-i.invariant.1.denoms

pub returns : goal.returns
returns c = sym (all_pushed (item_at c.args.segment_type c.args.start c.args.size c.args.steps) c.args.n c.loop-i.i c.loop-i.invariant.0 c.loop-i-test.false) ∙ c.loop-i.invariant.2
