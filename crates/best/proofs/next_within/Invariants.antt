-- The least k of which n / 2 ^ k is below the limit, and the next multiple of 2 ^ k. The invariant: of no smaller one it is. The measure
-- is how far k is from 16. Assumes nothing.
use Prim.Native.Nat.{ℕ, ◌-◌, ◌/◌, ◌^◌, ◌≤◌, ◌<◌}
use Rattle.best.proofs.next_within.Given as goal

abbrev pub invariant-loop-k : goal.invariant-loop-k
invariant-loop-k l = (l.k ≤ 16) × ((j : ℕ) → j < l.k → l.limit ≤ l.n / 2 ^ j)

abbrev pub decreases-loop-k : goal.decreases-loop-k
decreases-loop-k l = 16 - l.k
