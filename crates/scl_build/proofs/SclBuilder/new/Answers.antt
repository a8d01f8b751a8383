-- `SclBuilder::new` meets its contract: the shortest column is the room, and place 0 is written.
-- Assumes nothing.
use native.Mathlib.Omega.{arith}
use Rattle.sorted.specs.Lent.{list_table}
use Rattle.scl.specs.Table.{item_table}
use Rattle.scl_tables.proofs.Room.{room_within}
use Rattle.scl_build.proofs.SclBuilder.new.Goals as goal

pub write_item-requires : goal.write_item-requires
write_item-requires c =
    let w = room_within (item_table c.args.kind.now c.args.cents.now c.args.numer.now c.args.denom.now) (list_table c.args.place.now c.args.ratio.now c.args.wraps.now) in
    (omega (arith, c.room_of-room.ensures, c.if-room-gt0.true, w.0), omega (arith, c.room_of-room.ensures, c.if-room-gt0.true, w.1), omega (arith, c.room_of-room.ensures, c.if-room-gt0.true, w.2), omega (arith, c.room_of-room.ensures, c.if-room-gt0.true, w.3))
