-- `item_length` meets its contract: it writes the item into bytes of its own, which have room for any.
-- Assumes nothing.
use native.Mathlib.Omega.{arith}
use Rattle.scl_write.proofs.ItemLines.{item_short}
use Rattle.scl_write.proofs.item_length.Goals as goal

pub write_item-requires : goal.write_item-requires
write_item-requires c = (c.requires, omega (arith, item_short c.args.item))

pub returns : goal.returns
returns c = (omega (arith, c.write_item.ensures.value), omega (arith, c.write_item.ensures.value, item_short c.args.item))
