-- What the table has for these bits. Assumes nothing.
use mathlib.Core.Path.{refl}
use Rattle.power_products.proofs.product_1.Goals as goal

pub product_1_at-requires : goal.product_1_at-requires
product_1_at-requires c = tt

pub returns : goal.returns
returns c = c.product_1_at.ensures c.args.b refl
