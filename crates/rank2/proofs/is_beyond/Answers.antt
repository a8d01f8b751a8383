-- `is_beyond` meets its contract: the highest pitch value, its cents, and the look at them.
-- Assumes nothing.
use native.Mathlib.Omega.{arith}
use Rattle.rank2.specs.Notes.{pitch_at}
use Rattle.rank2.proofs.Values.{values_of, top_within}
use Rattle.rank2.proofs.Calls.{beyond_look}
use Rattle.rank2.proofs.is_beyond.Goals as goal

pub cents_of-requires : goal.cents_of-requires
cents_of-requires c = top_within (pitch_at c.args.period c.args.generator_cents c.args.period_cents c.args.positive) c.args.n (values_of c.args.period c.args.generator_cents c.args.period_cents (record { within = c.requires.1; held = c.well_formed.0.1 }) c.requires.2 c.requires.3 c.args.positive c.args.n (omega (arith, c.well_formed))) c.requires.0 c.highest-top.ensures

pub returns : goal.returns
returns c = beyond_look (pitch_at c.args.period c.args.generator_cents c.args.period_cents c.args.positive) c.args.n c.highest-top.ensures c.cents_of.ensures.0 c.is_beyond.ensures
