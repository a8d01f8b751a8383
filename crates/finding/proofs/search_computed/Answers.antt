-- `search_computed` meets its contract: 18, then the search.
-- Assumes nothing.
use mathlib.Core.Path.{◌∙◌, sym}
use Rattle.searching.proofs.Within.{search_reach}
use Rattle.finding.proofs.search_computed.Goals as goal

pub search-requires : goal.search-requires
search-requires c = (c.requires.0, c.requires.1, search_reach c.args.target (sym c.is_in_search.ensures ∙ c.if-is_in_search.true))

pub returns-then-is_in_search : goal.returns-then-is_in_search
returns-then-is_in_search c = rw (sym c.is_in_search.ensures ∙ c.if-is_in_search.true) c.search.ensures

pub returns : goal.returns
returns c = rw (sym c.is_in_search.ensures ∙ c.if-is_in_search.false)
