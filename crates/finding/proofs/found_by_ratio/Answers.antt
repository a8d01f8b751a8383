-- `found_by_ratio` meets its contract: 10, then the search.
-- Assumes nothing.
use mathlib.Core.Path.{◌∙◌, sym}
use Rattle.sorted.specs.Lent.{is_list, list_table}
use Rattle.scl.specs.Table.{is_items, item_table}
use Rattle.scl.proofs.Table.{both}
use Rattle.searching.proofs.Within.{search_reach}
use Rattle.finding.proofs.found_by_ratio.Goals as goal

pub search-requires : goal.search-requires
search-requires c =
    let x = sym c.is_in_search.ensures ∙ c.if-is_in_search.true in
    let h = both (is_items c.args.count c.args.items.now) (is_list c.args.count c.args.list.now) (sym c.is_scale.ensures ∙ c.if-is_scale.true) in
    (h.0, h.1, search_reach c.args.target x)

pub returns-then-is_in_search : goal.returns-then-is_in_search
returns-then-is_in_search c = rw (sym c.is_scale.ensures ∙ c.if-is_scale.true, sym c.is_in_search.ensures ∙ c.if-is_in_search.true) c.search.ensures

pub returns-else-is_in_search : goal.returns-else-is_in_search
returns-else-is_in_search c = rw (sym c.is_scale.ensures ∙ c.if-is_scale.true, sym c.is_in_search.ensures ∙ c.if-is_in_search.false)

pub returns-else-is_scale : goal.returns-else-is_scale
returns-else-is_scale c = rw (sym c.is_scale.ensures ∙ c.if-is_scale.false)
