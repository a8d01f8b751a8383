-- What the table has for these bits. Assumes nothing.
use mathlib.Core.Path.{refl}
use Rattle.log_roots.proofs.root_1.Goals as goal

pub root_1_at-requires : goal.root_1_at-requires
root_1_at-requires c = tt

pub returns : goal.returns
returns c = c.root_1_at.ensures c.args.h refl
