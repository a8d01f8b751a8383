-- What the table has for these bits. Assumes nothing.
use mathlib.Core.Path.{refl}
use Rattle.log_roots.proofs.root_4.Goals as goal

pub root_4_at-requires : goal.root_4_at-requires
root_4_at-requires c = tt

pub returns : goal.returns
returns c = c.root_4_at.ensures c.args.h refl
