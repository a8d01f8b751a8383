-- The result is T_k where the bit is set, else 2 ^ 62.
-- No loop; the place read is k or 0, by the bit (`chosen` of Bound.antt).
use native.Mathlib.Omega.{arith}
use borrow.Author.Rules.{rules}
use Rattle.powers.proofs.Bound.{chosen, place}
use Rattle.powers.proofs.factor.Goals as goal

pub overflow_mul-k : goal.overflow_mul-k
overflow_mul-k c = omega (arith, place c.args.b c.args.k c.requires.1)

pub entry-requires : goal.entry-requires
entry-requires c = omega (arith, place c.args.b c.args.k c.requires.1)

pub returns : goal.returns
returns c = chosen c.args.b c.args.k _ c.requires.0 c.entry.ensures
