-- The result is B for y.
-- Invariant: z is y after k turns, below 2 ^ 63, and `bits` holds the k bits. Measure: 52 - k.
use Prim.Native.Nat.{◌-◌}
use native.Mathlib.Omega.{arith}
use borrow.Author.Rules.{rules}
use Rattle.powers.proofs.Turns.{Turn, first, next, room, last, bit_small}
use Rattle.powers.proofs.log_bits.Goals as goal

pub loop-k-init : goal.loop-k-init
loop-k-init c = first c.args.y c.requires

pub overflow_shr-z : goal.overflow_shr-z
overflow_shr-z c = rw c.top_bit-bit.ensures (omega (arith, bit_small c.mul_shift62-s.result))

pub overflow_mul-bits : goal.overflow_mul-bits
overflow_mul-bits c = omega (arith, room c.loop-k.k c.loop-k.bits c.loop-k-test.true c.loop-k.invariant.bits_below)

pub overflow_add-bits : goal.overflow_add-bits
overflow_add-bits c = rw c.top_bit-bit.ensures (omega (arith, room c.loop-k.k c.loop-k.bits c.loop-k-test.true c.loop-k.invariant.bits_below, bit_small c.mul_shift62-s.result))

pub loop-k-preserved : goal.loop-k-preserved
loop-k-preserved c =
    next c.args.y c.loop-k.k c.loop-k.z c.loop-k.bits c.mul_shift62-s.result c.top_bit-bit.result c.loop-k-test.true c.loop-k.invariant
    c.mul_shift62-s.ensures (omega (arith, c.mul_shift62-s.type_inv)) c.top_bit-bit.ensures

pub returns : goal.returns
returns c = last c.args.y c.loop-k.k c.loop-k.z c.loop-k.bits (omega arith) c.loop-k.invariant
