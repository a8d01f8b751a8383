-- `is_some` meets its contract: L's answer, either way.
-- Assumes nothing.
use Rattle.base.specs.Said.{outcome}
use mathlib.Core.Path.{refl}
use Rattle.scl_tables.proofs.Answered.{told}
use Rattle.rank2.proofs.Calls.{some_octaves, no_octaves}
use Rattle.rank2.proofs.is_some.Goals as goal

pub returns-in-Ok : goal.returns-in-Ok
returns-in-Ok c = some_octaves _ (told outcome c.log2.ensures c.in-Ok.is) refl

pub returns-in-Err : goal.returns-in-Err
returns-in-Err c = no_octaves (told outcome c.log2.ensures c.in-Err.is)
