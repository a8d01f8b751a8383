-- What the table has for these bits. Assumes nothing.
use mathlib.Core.Path.{refl}
use Rattle.power_products.proofs.product_2.Goals as goal

pub product_2_at-requires : goal.product_2_at-requires
product_2_at-requires c = tt

pub returns : goal.returns
returns c = c.product_2_at.ensures c.args.b refl
