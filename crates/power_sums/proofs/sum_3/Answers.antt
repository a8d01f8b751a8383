-- What the table has for these bits. Assumes nothing.
use mathlib.Core.Path.{refl}
use Rattle.power_sums.proofs.sum_3.Goals as goal

pub sum_3_at-requires : goal.sum_3_at-requires
sum_3_at-requires c = tt

pub returns : goal.returns
returns c = c.sum_3_at.ensures c.args.b refl
