-- `read_scl` answers what the first pass answers; the second leaves the items of an accepted text, and the build their sorted list.
-- No loop.
use Rattle.scl.specs.Table.{item_table}
use Rattle.sorted.specs.Lent.{list_table}
use Rattle.scl_read.proofs.Leaves.{read_fits, read_builds, read_leaves}
use Rattle.base.proofs.Clauses.{value_and_tables}
use Rattle.scl_read.proofs.read_scl.Goals as goal

pub fill-requires : goal.fill-requires
fill-requires c = read_fits c.args.text.now (item_table c.args.kind.now c.args.cents.now c.args.numer.now c.args.denom.now) (list_table c.args.place.now c.args.ratio.now c.args.wraps.now) c.room_of-room.ensures c.if-room-eq0.false c.check.result c.check.ensures c.in_ok-scl.was

pub build_list-requires : goal.build_list-requires
build_list-requires c = rw c.new.ensures (read_builds c.args.text.now (item_table c.args.kind.now c.args.cents.now c.args.numer.now c.args.denom.now) (list_table c.args.place.now c.args.ratio.now c.args.wraps.now) c.room_of-room.ensures c.if-room-eq0.false c.check.result c.check.ensures c.in_ok-scl.was c.fill.ensures)

pub returns : goal.returns
returns c =
    value_and_tables
    (read_leaves c.args.text.now (item_table c.args.kind.now c.args.cents.now c.args.numer.now c.args.denom.now) (list_table c.args.place.now c.args.ratio.now c.args.wraps.now) c.room_of-room.ensures c.if-room-eq0.false c.check.result c.check.ensures c.in_ok-scl.was c.fill.ensures (rw c.new.ensures at c.build_list.ensures.1) c.description_of-description.ensures)
