-- `octaves_of` meets its contract: L does not refuse what is in its range.
use Rattle.scl_tables.proofs.Answered.{taken}
use Rattle.scl_tables.proofs.Reaches.{log_gives}
use Rattle.scl_tables.proofs.reduction.octaves_of.Goals as goal

pub returns : goal.returns
returns c = taken c.log2.result _ c.log2.ensures (log_gives c.args.ratio c.requires) c.unwrap_or.ensures
