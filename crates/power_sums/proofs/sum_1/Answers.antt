-- What the table has for these bits. Assumes nothing.
use mathlib.Core.Path.{refl}
use Rattle.power_sums.proofs.sum_1.Goals as goal

pub sum_1_at-requires : goal.sum_1_at-requires
sum_1_at-requires c = tt

pub returns : goal.returns
returns c = c.sum_1_at.ensures c.args.b refl
