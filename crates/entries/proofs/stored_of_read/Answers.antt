-- `stored_of_read` meets its contract: by the answer's case.
-- Assumes nothing.
use Rattle.std.specs.Prelude.{Result}
use Rattle.scl_read.specs.declared.SclRead.{SclRead}
use Rattle.base.specs.declared.Refusal.{Refusal}
use Rattle.base.specs.Said.{outcome}
use mathlib.Core.Path.{sym, ap}
use Rattle.entries.specs.Builds.{entries_stored}
use Rattle.entries.specs.Readings.{count_read}
use Rattle.entries.proofs.stored_of_read.Goals as goal

pub returns-in-Ok : goal.returns-in-Ok
returns-in-Ok c = sym (ap (λ (a : (Result SclRead Refusal)). entries_stored (count_read (outcome a))) c.in-Ok.is)

pub returns-in-Err : goal.returns-in-Err
returns-in-Err c = sym (ap (λ (a : (Result SclRead Refusal)). entries_stored (count_read (outcome a))) c.in-Err.is)
