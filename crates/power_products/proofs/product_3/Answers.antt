-- What the table has for these bits. Assumes nothing.
use mathlib.Core.Path.{refl}
use Rattle.power_products.proofs.product_3.Goals as goal

pub product_3_at-requires : goal.product_3_at-requires
product_3_at-requires c = tt

pub returns : goal.returns
returns c = c.product_3_at.ensures c.args.b refl
