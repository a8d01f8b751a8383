-- What the table has for these bits. Assumes nothing.
use mathlib.Core.Path.{refl}
use Rattle.log_roots.proofs.root_2.Goals as goal

pub root_2_at-requires : goal.root_2_at-requires
root_2_at-requires c = tt

pub returns : goal.returns
returns c = c.root_2_at.ensures c.args.h refl
