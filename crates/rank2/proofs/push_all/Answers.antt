-- `push_all` meets its contract. The invariant: the pushes that are left make of the state what all pushes make of the first one.
use Rattle.std.proofs.Common.{◌<◌, ◌≤◌, refl, sym, ap, ◌∙◌, arith}
use lib.Ieee.{nan}
use lib.Seq.{get_or-take, length-take-le}
use Rattle.scl.specs.Table.{item_table}
use Rattle.scl_build.specs.Builder.{beside}
use Rattle.generate.proofs.Kept.{kept_all, kept_on}
use Rattle.rank2.proofs.Pushes.{ratio_kept, one_pushed, all_pushed}
use Rattle.rank2.specs.Steps.{after_one_ratio}
use Rattle.rank2.proofs.push_all.Goals as goal

pub loop-value-init : goal.loop-value-init
loop-value-init c = (c.requires, kept_all _, refl)

pub loop-value-preserved : goal.loop-value-preserved
loop-value-preserved c =
    let s = beside c.loop-value.builder (item_table c.loop-value.kind c.loop-value.cents c.loop-value.numer c.loop-value.denom) in
    let all = length-take-le c.args.n c.args.ratio.now c.loop-value.invariant.0 in
    let h : c.loop-value.value-index < c.args.n = omega (arith, all, c.loop-value-test.true) in
    let e = c.pushed-builder.ensures ∙ ap (after_one_ratio s) (get_or-take c.args.n c.args.ratio.now c.loop-value.value-index nan h) in
    (c.loop-value.invariant.0, kept_on (ratio_kept s _ c.pushed-builder.ensures) c.loop-value.invariant.1, one_pushed c.args.ratio.now c.args.n c.loop-value.invariant.0 c.loop-value.value-index s h e ∙ c.loop-value.invariant.2)

pub shape_of-kind : goal.shape_of-kind
shape_of-kind c = c.loop-value.invariant.1.kinds

pub shape_of-cents : goal.shape_of-cents
shape_of-cents c = c.loop-value.invariant.1.cents

pub shape_of-numer : goal.shape_of-numer
shape_of-numer c = c.loop-value.invariant.1.numers

pub shape_of-denom : goal.shape_of-denom
shape_of-denom c = c.loop-value.invariant.1.denoms

pub returns : goal.returns
returns c =
    let all = length-take-le c.args.n c.args.ratio.now c.loop-value.invariant.0 in
    let h : c.args.n ≤ c.loop-value.value-index = omega (arith, all, c.loop-value-test.false) in
    sym (all_pushed c.args.ratio.now c.args.n c.loop-value.invariant.0 c.loop-value.value-index h) ∙ c.loop-value.invariant.2
