-- The least k of which n / 2 ^ k is below the limit, and the next multiple of 2 ^ k. The invariant: of no smaller one it is. The measure
-- is how far k is from 16. Assumes nothing.
use Prim.Native.Nat.{◌<◌}
use Rattle.best.proofs.After.{fewer, next_found}
use Rattle.best.proofs.next_within.Goals as goal
use Rattle.best.proofs.next_within.Goals.{In-loop-k}

-- in the loop k is below 16
inside : (c : In-loop-k) → c.loop-k.k < 16
inside c =
    fewer _ _ _ c.requires.0 c.requires.1 c.loop-k-test.true

pub returns : goal.returns
returns c = next_found _ _ _ c.requires.0 c.loop-k.invariant.0 c.loop-k-test.false c.loop-k.invariant.1
