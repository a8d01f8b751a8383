-- `stored_of` meets its contract: by the answer's case.
-- Assumes nothing.
use Rattle.std.specs.Prelude.{Result}
use Rattle.scl.specs.declared.Scl.{Scl}
use Rattle.base.specs.declared.Refusal.{Refusal}
use mathlib.Core.Path.{sym, ap}
use Rattle.scl.specs.Answers.{says_scl}
use Rattle.entries.specs.Builds.{entries_stored}
use Rattle.entries.proofs.stored_of.Goals as goal

pub returns-in-Ok : goal.returns-in-Ok
returns-in-Ok c = sym (ap (λ (a : (Result Scl Refusal)). entries_stored (says_scl a)) c.in-Ok.is)

pub returns-in-Err : goal.returns-in-Err
returns-in-Err c = sym (ap (λ (a : (Result Scl Refusal)). entries_stored (says_scl a)) c.in-Err.is)
