-- `room_of` meets its contract: the lesser of two lengths, and so on.
use Rattle.sorted.specs.Lent.{list_table}
use Rattle.scl.specs.Table.{item_table}
use Rattle.scl_tables.proofs.Room.{room_is}
use Rattle.scl_tables.proofs.room_of.Goals as goal

pub returns : goal.returns
returns c = room_is (item_table c.args.kind.now c.args.cents.now c.args.numer.now c.args.denom.now) (list_table c.args.place.now c.args.ratio.now c.args.wraps.now) c.min.ensures c.min-2.ensures c.min-items.ensures c.min-3.ensures c.min-list.ensures c.min-4.ensures
