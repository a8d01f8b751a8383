-- `aim_of` meets its contract: the search's definition, opened at the period and the reduced target.
-- Assumes nothing.
use mathlib.Core.Path.{◌∙◌, ap, refl, sym}
use mathlib.Core.Bool.{◌&&◌}
use native.Mathlib.Omega.{arith}
use lib.Dec.{eqb}
use lib.Ieee.{eq}
use mir.Facts.{to_z-of_z}
use mir.Syntax.{w32}
use Rattle.base.specs.Numbers.{beyond_reach}
use Rattle.base.specs.Said.{Said, and_then, gives, refuses, pick}
use Rattle.floats.specs.Floats.{zero_f}
use Rattle.scl.specs.Items.{ratio_of}
use Rattle.scl.specs.Table.{item_table, items_in}
use Rattle.scl_tables.specs.declared.reduction.Reduced.{Reduced}
use Rattle.relative.proofs.Places.{items_count, items_last}
use Rattle.searching.specs.Search.{nearest_of}
use Rattle.searching.proofs.Opened.{search_some}
use borrow.Author.Rules.{rules}
use Rattle.entries.proofs.search.aim_of.Goals as goal

pub returns : goal.returns
returns c =
    let items = items_in c.args.count c.args.items.now in
    let last = ap gives c.period_of-period.ensures.0 ∙ c.ratio_at-last.ensures.0 ∙ ap ratio_of (items_last c.args.count c.args.items.now c.requires.0) in
    rw (to_z-of_z {w = w32} {z = c.reduce-reduced.result.wraps} (search rules)) (record {
      search =
          λ es. search_some items es c.args.count c.args.x (items_count c.args.count c.args.items.now c.requires.0) (eqb c.args.count 1) (λ e. omega (arith, e, c.requires.1)) refl last c.period_of-period.ensures.1.octaves
          ∙ ap (λ (t : Said Reduced). pick (eqb c.args.count 1 && eq c.period_of-period.result.octaves zero_f) (refuses beyond_reach 0) (and_then t (λ y. nearest_of es y.wraps y.ratio))) (sym c.reduce-reduced.ensures.0);
      reach = c.reduce-reduced.ensures.1;
    })
