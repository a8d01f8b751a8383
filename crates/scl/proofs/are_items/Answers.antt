-- `are_items` meets its contract. The invariant: `all` says whether the items up to i can be used, and what is left decides with it.
-- The measure is the number of places left. Assumes nothing.
use Rattle.scl.specs.Table.{item_table}
use Rattle.scl.proofs.Table.{roomy, turn, finish}
use Rattle.scl.proofs.are_items.Goals as goal

pub loop-i-preserved : goal.loop-i-preserved
loop-i-preserved c =
    let room = roomy c.args.n (item_table c.args.kind.now c.args.cents.now c.args.numer.now c.args.denom.now) c.requires in
    turn room c.loop-i.invariant c.loop-i-test.true c.is_item-all.ensures

pub returns : goal.returns
returns c =
    let room = roomy c.args.n (item_table c.args.kind.now c.args.cents.now c.args.numer.now c.args.denom.now) c.requires in
    finish room c.loop-i.invariant c.loop-i-test.false
