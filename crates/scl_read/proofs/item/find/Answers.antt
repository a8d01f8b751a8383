-- `find` answers the first place of a byte. The invariant: so far it did not stand there.
use mathlib.Core.Path.{◌≡◌}
use native.Mathlib.Omega.{arith}
use lib.ListN.{length}
use Rattle.scl_read.proofs.Finds.{find_here, find_on, find_none}
use Rattle.scl_read.proofs.item.find.Goals as goal

pub returns-then-b-byte : goal.returns-then-b-byte
returns-then-b-byte c = find_here _ _ _ c.loop-i.invariant c.loop-i-test.true c.if-b-byte.true

pub loop-i-preserved : goal.loop-i-preserved
loop-i-preserved c = find_on _ _ _ c.loop-i.invariant c.loop-i-test.true c.if-b-byte.false

pub returns : goal.returns
returns c =
    let e : c.loop-i.i ≡ length c.args.s.now = omega (arith, c.loop-i.auto.i-end, c.loop-i-test.false) in
    rw (← e) (find_none _ _ _ c.loop-i.invariant c.loop-i-test.false)
