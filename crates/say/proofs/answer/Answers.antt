-- An accepted answer is written by the one call.
use Rattle.std.proofs.Common.{rules}
use Rattle.say.proofs.answer.Goals as goal

pub returns-in-Ok-clause-value : goal.returns-in-Ok-clause-value
returns-in-Ok-clause-value g c = rw c.in-Ok.is (search rules)
