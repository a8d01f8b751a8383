-- `telbijan_build_kbm` meets its contract: what `build` answers, two of its numbers stored. Assumes nothing.
use Rattle.std.proofs.Common.{rules}
use Rattle.telbijan_mappings.proofs.telbijan_build_kbm.Goals as goal

pub returns-in-Ok : goal.returns-in-Ok
returns-in-Ok c = (search rules, search rules, search rules)
