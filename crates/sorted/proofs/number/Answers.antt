-- `number` meets its contract. The invariant: the first i places hold their own numbers.
-- The measure is the number of places left.
use mathlib.Core.Path.{refl, ◌∙◌}
use Prim.Native.Nat.{◌≤◌, ◌<◌}
use native.Mathlib.Omega.{arith}
use lib.ListN.{length, length-set}
use Rattle.sorted.proofs.Numbering.{numbered, number_done}
use Rattle.sorted.proofs.number.Goals as goal

pub loop-i-init : goal.loop-i-init
loop-i-init c = (refl, omega arith, refl)

pub loop-i-preserved : goal.loop-i-preserved
loop-i-preserved c =
    let room : c.loop-i.i < length c.loop-i.place = omega (arith, c.loop-i.invariant.0, c.loop-i-test.true) in
    (length-set c.loop-i.place _ _ ∙ c.loop-i.invariant.0, omega (arith, c.loop-i-test.true), numbered _ _ room c.loop-i.invariant.2)

pub returns : goal.returns
returns c =
    let past : length c.loop-i.place ≤ c.loop-i.i = omega (arith, c.loop-i.invariant.0, c.loop-i-test.false) in
    number_done _ c.args.place.now _ c.loop-i.invariant.0 c.loop-i.invariant.1 past c.loop-i.invariant.2
