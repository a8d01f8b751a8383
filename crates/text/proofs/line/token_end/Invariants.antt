-- `token_end` answers how long the token is that the slice starts with.
-- Invariant: it is `i` bytes long and the token from `i` on.
use Rattle.text.proofs.Tokens.{Along}
use Rattle.text.proofs.line.token_end.Given as goal

abbrev pub invariant-loop-i : goal.invariant-loop-i
invariant-loop-i l = Along l.s l.i
