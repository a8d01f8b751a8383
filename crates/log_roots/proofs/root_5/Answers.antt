-- What the table has for these bits. Assumes nothing.
use mathlib.Core.Path.{refl}
use Rattle.log_roots.proofs.root_5.Goals as goal

pub root_5_at-requires : goal.root_5_at-requires
root_5_at-requires c = tt

pub returns : goal.returns
returns c = c.root_5_at.ensures c.args.h refl
