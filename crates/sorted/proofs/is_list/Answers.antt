-- `is_list` meets its contract: room in each column, then the entries.
-- Assumes nothing.
use Rattle.sorted.specs.Lent.{list_table}
use Rattle.sorted.proofs.Lists.{places_short, ratios_short, wraps_short, list_tests}
use Rattle.sorted.proofs.is_list.Goals as goal

pub returns-then-count-wraps : goal.returns-then-count-wraps
returns-then-count-wraps c = list_tests c.args.count (list_table c.args.place.now c.args.ratio.now c.args.wraps.now) c.if-count-place.true c.if-count-ratio.true c.if-count-wraps.true c.are_entries.ensures

pub returns-else-count-wraps : goal.returns-else-count-wraps
returns-else-count-wraps c = wraps_short c.args.count (list_table c.args.place.now c.args.ratio.now c.args.wraps.now) c.if-count-place.true c.if-count-ratio.true c.if-count-wraps.false

pub returns-else-count-ratio : goal.returns-else-count-ratio
returns-else-count-ratio c = ratios_short c.args.count (list_table c.args.place.now c.args.ratio.now c.args.wraps.now) c.if-count-place.true c.if-count-ratio.false

pub returns-else-count-place : goal.returns-else-count-place
returns-else-count-place c = places_short c.args.count (list_table c.args.place.now c.args.ratio.now c.args.wraps.now) c.if-count-place.false
