-- Each read adds to what the reader gave.
use Rattle.std.proofs.Common.{rules}
use Rattle.say.proofs.Consumed.{read_more}
use Rattle.say.proofs.read_all.Goals as goal

pub loop-n-preserved : goal.loop-n-preserved
loop-n-preserved g c =
    (search rules, read_more _ _ _ _ _ _ _ _ c.loop-n.invariant.0 c.in_ok-more.ensures.bound.0 c.loop-n.invariant.1 c.in_ok-more.ensures.bytes.0)
