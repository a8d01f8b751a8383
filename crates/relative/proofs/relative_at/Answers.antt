-- `relative_at` meets its contract: the definition, opened at the period and the item.
-- Assumes nothing.
use mathlib.Core.Path.{◌∙◌, ap}
use Prim.Native.Nat.{ℕ}
use lib.IntN.{ℤ}
use lib.ListN.{get_or}
use mir.Facts.{to_z-of_z}
use mir.Syntax.{w32}
use Rattle.base.proofs.Machine.{told}
use Rattle.scl.specs.Items.{ratio_of}
use Rattle.scl.specs.Table.{item_table, items_in, no_item}
use Rattle.relative.specs.Relative.{periods_of, stretched}
use Rattle.relative.proofs.Opened.{relative_told}
use Rattle.relative.proofs.Places.{items_count, items_last}
use Rattle.relative.proofs.relative_at.Goals as goal

pub returns : goal.returns
returns c =
    let items = items_in c.args.count c.args.items.now in
    let q = told {w = w32} {w' = w32} (periods_of c.args.count) c.ranges.degree (record { sfits = c.periods_of.type_inv }) c.periods_of.ensures in
    let at = rw (to_z-of_z c.ranges.degree) at c.place_of-place.ensures.0 in
    let last = c.ratio_at-period.ensures.0 ∙ ap ratio_of (items_last c.args.count c.args.items.now c.requires) in
    c.stretch.ensures
    ∙ ap (λ (z : ℤ). stretched c.ratio_at-period.result z c.ratio_at-ratio.result) q
    ∙ relative_told items c.args.count c.args.degree (items_count c.args.count c.args.items.now c.requires) last (c.ratio_at-ratio.ensures.0 ∙ ap (λ (i : ℕ). ratio_of (get_or items i no_item)) at)
