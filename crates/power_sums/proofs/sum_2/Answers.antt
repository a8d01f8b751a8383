-- What the table has for these bits. Assumes nothing.
use mathlib.Core.Path.{refl}
use Rattle.power_sums.proofs.sum_2.Goals as goal

pub sum_2_at-requires : goal.sum_2_at-requires
sum_2_at-requires c = tt

pub returns : goal.returns
returns c = c.sum_2_at.ensures c.args.b refl
