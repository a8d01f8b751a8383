-- `items_length` meets its contract. The invariant: what was counted and the length of the lines that are left make the length of
-- all, and no line is longer than 40.
use mathlib.Core.Path.{◌≡◌, ap}
use native.Mathlib.Omega.{arith}
use lib.ListN.{length}
use Rattle.writing.specs.Lines.{line}
use Rattle.scl.specs.Table.{item_table}
use Rattle.scl_write.specs.Export.{standing, item_text}
use Rattle.scl_write.proofs.ItemLines.{left_length, left_end}
use Rattle.scl_write.proofs.items_length.Goals as goal
use Rattle.scl_write.proofs.items_length.Goals.{After-item_length-total}

-- what was counted is the line of the item at `i`
counted : (c : After-item_length-total) → c.item_length-total.result ≡ length (line (item_text (standing c.args.items.now c.loop-i.i)))
counted c = rw c.item_at.ensures.0 at c.item_length-total.ensures.0

pub loop-i-init : goal.loop-i-init
loop-i-init c = (omega arith, omega arith, omega arith)

pub item_at-requires : goal.item_at-requires
item_at-requires c = (c.requires.0, (omega arith))

pub item_length-total-requires : goal.item_length-total-requires
item_length-total-requires c = c.item_at.ensures.1

pub overflow_add-total : goal.overflow_add-total
overflow_add-total c = omega (arith, c.item_length-total.ensures.1, c.requires.1)

pub loop-i-preserved : goal.loop-i-preserved
loop-i-preserved c = (
  omega arith,
  omega (arith, counted c, left_length c.args.count c.args.items.now c.requires.0 c.loop-i.i (omega arith)),
  omega (arith, c.item_length-total.ensures.1),
)

pub returns : goal.returns
returns c =
    let e = left_end c.args.count c.args.items.now c.requires.0 c.loop-i.i (omega arith) in
    (omega (arith, ap length e), omega (arith, c.requires.1))
