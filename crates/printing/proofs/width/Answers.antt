-- `width` meets its contract. The loop's invariant: what is left of n has as many digits more as were not counted yet.
-- The measure is what is left of 19.
use mathlib.Core.Path.{◌≡◌}
use Prim.Native.Nat.{◌+◌, ◌-◌, ◌^◌, ◌≤◌, ◌<◌}
use native.Mathlib.Omega.{arith}
use Rattle.printing.specs.PrintText.{width_of}
use Rattle.printing.proofs.Texts.{width_one, width_step, shorter}
use Rattle.printing.proofs.width.Goals as goal

pub loop-rest-init : goal.loop-rest-init
loop-rest-init c = (omega arith, omega arith, c.requires, omega arith)

pub overflow_add-k : goal.overflow_add-k
overflow_add-k c = omega arith

pub loop-rest-smaller : goal.loop-rest-smaller
loop-rest-smaller c = omega arith

pub loop-rest-preserved : goal.loop-rest-preserved
loop-rest-preserved c =
    let s = shorter (19 - c.loop-rest.k) c.loop-rest.rest c.loop-rest-test.true c.loop-rest.invariant.2 in
    let e : 19 - (c.loop-rest.k + 1) ≡ 19 - c.loop-rest.k - 1 = omega arith in
    (omega arith, omega arith, rw e s.1, rw e (omega (arith, c.loop-rest.invariant.3, width_step (19 - c.loop-rest.k) c.loop-rest.rest (omega arith) c.loop-rest-test.true)))

pub returns : goal.returns
returns c = omega (arith, c.loop-rest.invariant.3, width_one (19 - c.loop-rest.k) c.loop-rest.rest c.loop-rest-test.false)
