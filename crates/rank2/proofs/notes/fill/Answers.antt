-- `fill` meets its contract. The invariant: the first i places hold the first i pitch values.
-- Assumes nothing.
use mathlib.Core.Path.{refl, ◌∙◌}
use native.Mathlib.Omega.{arith}
use lib.ListN.{length, length-set}
use Prim.Native.Nat.{◌<◌, ◌≤◌}
use Rattle.rank2.specs.Notes.{pitch_at}
use Rattle.rank2.proofs.Heights.{none_filled, one_filled, all_filled}
use Rattle.rank2.proofs.notes.fill.Goals as goal

pub loop-i-init : goal.loop-i-init
loop-i-init c = (refl, omega arith, c.requires.0, none_filled (pitch_at c.args.period c.args.generator_cents c.args.period_cents c.args.positive) c.args.ratio.now)

pub overflow_cast-i : goal.overflow_cast-i
overflow_cast-i c = omega (arith, c.loop-i.invariant.0, c.loop-i.invariant.2, c.loop-i-test.true)

pub pitch_at-requires : goal.pitch_at-requires
pitch_at-requires c = (c.requires.1, c.requires.2, c.requires.3)

pub loop-i-preserved : goal.loop-i-preserved
loop-i-preserved c =
    let room : c.loop-i.i < length c.loop-i.ratio = omega (arith, c.loop-i.invariant.0, c.loop-i-test.true) in
    (length-set c.loop-i.ratio _ _ ∙ c.loop-i.invariant.0, omega (arith, c.loop-i.invariant.0, c.loop-i-test.true), c.loop-i.invariant.2, one_filled (pitch_at c.args.period c.args.generator_cents c.args.period_cents c.args.positive) c.loop-i.ratio c.loop-i.i room c.loop-i.invariant.3 c.pitch_at.ensures.0)

pub shape_of-ratio : goal.shape_of-ratio
shape_of-ratio c = c.loop-i.invariant.0

pub returns : goal.returns
returns c =
    let past : length c.loop-i.ratio ≤ c.loop-i.i = omega (arith, c.loop-i.invariant.0, c.loop-i-test.false) in
    all_filled (pitch_at c.args.period c.args.generator_cents c.args.period_cents c.args.positive) c.loop-i.ratio c.loop-i.i _ c.loop-i.invariant.1 c.loop-i.invariant.0 past c.loop-i.invariant.3
