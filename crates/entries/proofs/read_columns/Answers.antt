-- `read_columns` meets its contract: a list that is shorter than the column of wraparounds is so much of that column.
-- Assumes nothing.
use mathlib.Core.Path.{sym}
use native.Mathlib.Omega.{arith}
use lib.Seq.{length-take-le}
use Rattle.sorted.specs.Lent.{list_table}
use Rattle.scl.specs.Table.{item_table}
use Rattle.entries.proofs.Readings.{whole_read, part_read}
use Rattle.entries.proofs.read_columns.Goals as goal

pub slice_bounds-read_scl-end-then-places-wraps : goal.slice_bounds-read_scl-end-then-places-wraps
slice_bounds-read_scl-end-then-places-wraps c = sym (length-take-le c.args.places c.args.wraps.now (omega (arith, c.if-places-wraps.true)))

pub returns-then-places-wraps : goal.returns-then-places-wraps
returns-then-places-wraps c = part_read c.args.text.now (item_table c.args.kind.now c.args.cents.now c.args.numer.now c.args.denom.now) (list_table c.args.place.now c.args.ratio.now c.args.wraps.now) c.args.places c.if-places-wraps.true (list_table c.read_scl.new.place c.read_scl.new.ratio c.read_scl.new.wraps) c.read_scl.ensures.value c.read_scl.ensures.table_after c.read_scl.ensures.list_after

pub returns : goal.returns
returns c = whole_read c.args.text.now (item_table c.args.kind.now c.args.cents.now c.args.numer.now c.args.denom.now) (list_table c.args.place.now c.args.ratio.now c.args.wraps.now) c.args.places c.if-places-wraps.false c.read_scl-2.ensures.value c.read_scl-2.ensures.table_after c.read_scl-2.ensures.list_after
