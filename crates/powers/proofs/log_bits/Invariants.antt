-- The result is B for y.
-- Invariant: z is y after k turns, below 2 ^ 63, and `bits` holds the k bits. Measure: 52 - k.
use Prim.Native.Nat.{◌-◌}
use native.Mathlib.Omega.{arith}
use borrow.Author.Rules.{rules}
use Rattle.powers.proofs.Turns.{Turn, first, next, room, last, bit_small}
use Rattle.powers.proofs.log_bits.Given as goal

abbrev pub invariant-loop-k : goal.invariant-loop-k
invariant-loop-k l = Turn l.y l.k l.z l.bits

abbrev pub decreases-loop-k : goal.decreases-loop-k
decreases-loop-k l = 52 - l.k
