-- `highest` meets its contract. The invariant: of the pitch values from i on, top is the highest.
-- Assumes nothing.
use native.Mathlib.Omega.{arith}
use Rattle.rank2.specs.Notes.{pitch_at}
use Rattle.rank2.proofs.Heights.{none_higher, one_higher}
use Rattle.rank2.proofs.notes.highest.Goals as goal

pub loop-i-init : goal.loop-i-init
loop-i-init c = (omega arith, none_higher (pitch_at c.args.period c.args.generator_cents c.args.period_cents c.args.positive) c.args.n)

pub loop-i-preserved : goal.loop-i-preserved
loop-i-preserved c = (omega (arith, c.loop-i.invariant.0), one_higher (pitch_at c.args.period c.args.generator_cents c.args.period_cents c.args.positive) c.args.n c.loop-i.i c.loop-i-test.true c.loop-i.invariant.0 c.loop-i.invariant.1 c.pitch_at.ensures.0 c.higher-top.ensures)
