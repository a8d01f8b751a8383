-- `sorted_relative_at` meets its contract: the definition, opened at the period.
-- Assumes nothing.
use mathlib.Core.Path.{◌∙◌, ap, sym}
use Prim.Native.Nat.{ℕ}
use lib.Ieee.{nan}
use lib.IntN.{ℤ}
use lib.ListN.{get_or}
use mir.Facts.{to_z-of_z}
use mir.Syntax.{w32}
use Rattle.base.proofs.Machine.{told}
use Rattle.sorting.specs.Entries.{Entry}
use Rattle.sorted.specs.Lent.{list_in, list_table}
use Rattle.scl.specs.Items.{ratio_of}
use Rattle.scl.specs.Table.{item_table, items_in}
use Rattle.relative.specs.Relative.{periods_of, stretched}
use Rattle.relative.specs.Scales.{no_entry}
use Rattle.relative.proofs.Opened.{sorted_told}
use Rattle.relative.proofs.Places.{items_count, items_last, list_at}
use Rattle.relative.proofs.sorted_relative_at.Goals as goal

pub returns : goal.returns
returns c =
    let items = items_in c.args.count c.args.items.now in
    let es = list_in c.args.count c.args.list.now in
    let q = told {w = w32} {w' = w32} (periods_of c.args.count) c.ranges.degree (record { sfits = c.periods_of.type_inv }) c.periods_of.ensures in
    let at = rw (to_z-of_z c.ranges.degree) at c.place_of-at.ensures.0 in
    let entry = ap (λ (e : Entry). e.ratio) (sym (list_at c.args.count c.args.list.now c.requires.1 c.place_of-at.result c.place_of-at.ensures.1)) in
    let last = c.ratio_at-period.ensures.0 ∙ ap ratio_of (items_last c.args.count c.args.items.now c.requires.0) in
    c.stretch.ensures
    ∙ ap (λ (z : ℤ). stretched c.ratio_at-period.result z c.ratio.result) q
    ∙ ap (stretched c.ratio_at-period.result (periods_of c.args.count c.args.degree)) (c.ratio.ensures ∙ entry ∙ ap (λ (i : ℕ). (get_or es i no_entry).ratio) at)
    ∙ sorted_told items c.args.count c.args.degree (items_count c.args.count c.args.items.now c.requires.0) last es
