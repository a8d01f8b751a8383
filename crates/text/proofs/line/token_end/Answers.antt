-- `token_end` answers how long the token is that the slice starts with.
-- Invariant: it is `i` bytes long and the token from `i` on.
use mathlib.Core.Path.{◌≡◌}
use native.Mathlib.Omega.{arith}
use lib.ListN.{length}
use Rattle.text.proofs.Tokens.{token_turn, token_stop, token_all}
use Rattle.text.proofs.line.token_end.Goals as goal

pub returns-then-is_split : goal.returns-then-is_split
returns-then-is_split c = token_stop _ _ c.loop-i.invariant c.loop-i-test.true c.is_split.ensures c.if-is_split.true

pub loop-i-preserved : goal.loop-i-preserved
loop-i-preserved c = token_turn _ _ c.loop-i.invariant c.loop-i-test.true c.is_split.ensures c.if-is_split.false

pub returns : goal.returns
returns c =
    let e : c.loop-i.i ≡ length c.args.s.now = omega (arith, c.loop-i.auto.i-end, c.loop-i-test.false) in
    rw (← e) (token_all _ _ c.loop-i.invariant c.loop-i-test.false)
