-- What the table has for these bits. Assumes nothing.
use mathlib.Core.Path.{refl}
use Rattle.log_roots.proofs.root_3.Goals as goal

pub root_3_at-requires : goal.root_3_at-requires
root_3_at-requires c = tt

pub returns : goal.returns
returns c = c.root_3_at.ensures c.args.h refl
