-- `search` meets its contract: the definition, opened at the period and the reduced target.
-- Assumes nothing.
use mathlib.Core.Path.{◌∙◌, ap, refl, sym}
use lib.Dec.{eqb}
use mir.Facts.{to_z-of_z}
use mir.Syntax.{w32}
use Rattle.base.specs.Said.{Said, and_then, gives}
use Rattle.sorted.specs.Lent.{list_in, list_table}
use Rattle.scl.specs.Items.{ratio_of}
use Rattle.scl.specs.Table.{item_table, items_in}
use Rattle.scl_tables.specs.declared.reduction.Reduced.{Reduced}
use Rattle.relative.proofs.Places.{items_count, items_last}
use Rattle.searching.specs.Search.{nearest_of}
use Rattle.searching.proofs.Opened.{search_none, search_some}
use borrow.Author.Rules.{rules}
use Rattle.searching.proofs.search.Goals as goal

pub returns-then-count-eq0 : goal.returns-then-count-eq0
returns-then-count-eq0 c =
    let items = items_in c.args.count c.args.items.now in
    let es = list_in c.args.count c.args.list.now in
    ap gives c.found_at.ensures ∙ search_none items es c.args.count c.args.target (items_count c.args.count c.args.items.now c.requires.0) c.if-count-eq0.true

pub returns-then-single-none : goal.returns-then-single-none
returns-then-single-none c =
    let items = items_in c.args.count c.args.items.now in
    let es = list_in c.args.count c.args.list.now in
    let last = ap gives c.period_of-period.ensures.0 ∙ c.ratio_at-last.ensures.0 ∙ ap ratio_of (items_last c.args.count c.args.items.now c.requires.0) in
    sym (search_some items es c.args.count c.args.target (items_count c.args.count c.args.items.now c.requires.0) (eqb c.args.count 1) c.if-count-eq0.false refl last c.period_of-period.ensures.1.octaves ∙ rw c.if-single-none.true refl)

pub returns : goal.returns
returns c =
    let items = items_in c.args.count c.args.items.now in
    let es = list_in c.args.count c.args.list.now in
    let last = ap gives c.period_of-period.ensures.0 ∙ c.ratio_at-last.ensures.0 ∙ ap ratio_of (items_last c.args.count c.args.items.now c.requires.0) in
    let found = rw (to_z-of_z {w = w32} {z = c.reduce-reduced.result.wraps} (search rules)) at c.nearest_entry.ensures in
    found ∙ ap (λ (t : Said Reduced). and_then t (λ y. nearest_of es y.wraps y.ratio)) c.reduce-reduced.ensures.0 ∙ sym (search_some items es c.args.count c.args.target (items_count c.args.count c.args.items.now c.requires.0) (eqb c.args.count 1) c.if-count-eq0.false refl last c.period_of-period.ensures.1.octaves ∙ rw c.if-single-none.false refl)
