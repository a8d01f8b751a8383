-- `period` meets its contract: 10, then the ratio of the last item.
-- Assumes nothing.
use mathlib.Core.Path.{◌∙◌, ap, sym}
use Rattle.scl.specs.Items.{ratio_of}
use Rattle.scl.specs.Table.{item_table}
use Rattle.relative.proofs.Places.{items_last}
use Rattle.relative.proofs.period.Goals as goal

pub returns-then-holds : goal.returns-then-holds
returns-then-holds c =
    let u = sym c.holds.ensures.value ∙ c.if-holds.true in
    rw u (c.ratio_at.ensures.0 ∙ ap ratio_of (items_last c.args.scl.count c.args.items.now u))
