-- The result is the f64 of the parts.
-- No loop; the sign is carried along.
use borrow.Author.Rules.{rules}
use Rattle.remainder.proofs.Modulo.{with_sign, without_sign}
use Rattle.remainder.proofs.pack.Goals as goal

pub returns-then-parts : goal.returns-then-parts
returns-then-parts c = with_sign _ _ _ _ c.size_of-size.ensures c.if-parts.true

pub returns-else-parts : goal.returns-else-parts
returns-else-parts c = without_sign _ _ _ _ c.size_of-size.ensures c.if-parts.false
