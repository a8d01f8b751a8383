-- `is_item` meets its contract: one test for all kinds.
-- Assumes nothing.
use Rattle.scl.proofs.Table.{item_test}
use Rattle.scl.proofs.is_item.Goals as goal

pub returns : goal.returns
returns c = rw c.is_usable_cents.ensures (item_test c.args.kind c.args.cents c.args.numer c.args.denom)
