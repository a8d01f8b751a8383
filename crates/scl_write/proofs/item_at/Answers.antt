-- `item_at` meets its contract: the place lies within each column of a usable table, and its item can be used.
-- Assumes nothing.
use native.Mathlib.Omega.{arith}
use Rattle.scl.specs.Table.{Items, item_table}
use Rattle.scl.proofs.Table.{items_are}
use Rattle.scl_write.proofs.ItemLines.{standing_usable}
use Rattle.scl_write.proofs.item_at.Goals as goal
use Rattle.scl_write.proofs.item_at.Goals.{Start}

-- each column has the place
rooms : (c : Start) → Items c.args.count c.args.items.now
rooms c = (items_are c.args.count c.args.items.now).0 c.requires.0

pub item-requires : goal.item-requires
item-requires c =
    let room = rooms (goal.at.item-requires c).Start in
    record {
      kinds = omega (arith, room.kinds_room, c.requires.1);
      cents = omega (arith, room.cents_room, c.requires.1);
      numers = omega (arith, room.numers_room, c.requires.1);
      denoms = omega (arith, room.denoms_room, c.requires.1);
    }

pub returns : goal.returns
returns c = (c.item.ensures, rw c.item.ensures (standing_usable c.args.count c.args.items.now c.requires.0 c.args.i c.requires.1))
