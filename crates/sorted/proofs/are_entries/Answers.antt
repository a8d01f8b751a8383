-- `are_entries` meets its contract. The invariant: what `all`, `last` and `highest` say of the entries up to i decides with what is left.
-- The measure is the number of entries left. Assumes nothing.
use lib.Ieee.{of_bits}
use Rattle.sorted.proofs.Passes.{starts, turn, ends}
use Rattle.sorted.proofs.are_entries.Goals as goal

pub loop-i-init : goal.loop-i-init
unfolding of_bits
loop-i-init c = starts c.args.place.now c.args.ratio.now c.args.n c.args.count

pub loop-i-preserved : goal.loop-i-preserved
loop-i-preserved c = turn c.requires c.loop-i.invariant c.loop-i-test.true c.higher-highest.ensures

pub returns : goal.returns
unfolding of_bits
returns c = ends c.requires c.loop-i.invariant c.loop-i-test.false c.is_at_most.ensures
