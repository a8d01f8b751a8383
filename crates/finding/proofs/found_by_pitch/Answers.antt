-- `found_by_pitch` meets its contract: 10, then the search.
-- Assumes nothing.
use mathlib.Core.Bool.{◌&&◌}
use mathlib.Core.Path.{◌∙◌, sym}
use Rattle.floats.specs.Ranges.{in_pitch}
use Rattle.sorted.specs.Lent.{is_list, list_table}
use Rattle.scl.specs.Table.{is_items, item_table}
use Rattle.scl.proofs.Table.{both}
use Rattle.kbm.specs.Root.{is_root}
use Rattle.relative.specs.Scales.{is_scale}
use Rattle.finding.proofs.found_by_pitch.Goals as goal

pub search_rooted-requires : goal.search_rooted-requires
search_rooted-requires c =
    let h = (both (is_scale c.args.count c.args.items.now c.args.list.now) (is_root c.args.root && in_pitch c.args.pitch.0) (sym c.is_searchable.ensures ∙ c.if-is_searchable.true)).0 in
    both (is_items c.args.count c.args.items.now) (is_list c.args.count c.args.list.now) h

pub returns-then-is_searchable : goal.returns-then-is_searchable
returns-then-is_searchable c = rw (sym c.is_searchable.ensures ∙ c.if-is_searchable.true) c.search_rooted.ensures

pub returns : goal.returns
returns c = rw (sym c.is_searchable.ensures ∙ c.if-is_searchable.false)
