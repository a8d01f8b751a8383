-- `SclBuilder::push` meets its contract: the item goes to the next place, and a refusal writes nothing.
-- Assumes nothing.
use mathlib.Core.Path.{sym, ◌∙◌}
use Rattle.scl.specs.Table.{item_table}
use Rattle.scl_build.proofs.Pushes.{push_other, push_unusable, push_full, push_more, refused, accepted}
use Rattle.scl_build.proofs.SclBuilder.push.Goals as goal

pub returns-then-next-room : goal.returns-then-next-room
returns-then-next-room c = accepted c.args.self (item_table c.args.kind.now c.args.cents.now c.args.numer.now c.args.denom.now) c.args.item (push_more c.args.self (item_table c.args.kind.now c.args.cents.now c.args.numer.now c.args.denom.now) c.args.item (sym c.fits_items.ensures ∙ c.if-fits_items.true) (sym c.is_usable.ensures ∙ c.if-is_usable.true) c.if-next-room.true) c.write_item.ensures

pub returns-then-is_usable : goal.returns-then-is_usable
returns-then-is_usable c =
    let fits = sym c.fits_items.ensures ∙ c.if-fits_items.true in
    let usable = sym c.is_usable.ensures ∙ c.if-is_usable.true in
    refused c.args.self (item_table c.args.kind.now c.args.cents.now c.args.numer.now c.args.denom.now) c.args.item (push_full c.args.self (item_table c.args.kind.now c.args.cents.now c.args.numer.now c.args.denom.now) c.args.item fits usable c.if-next-room.false)

pub returns-else-is_usable : goal.returns-else-is_usable
returns-else-is_usable c = refused c.args.self (item_table c.args.kind.now c.args.cents.now c.args.numer.now c.args.denom.now) c.args.item (push_unusable c.args.self (item_table c.args.kind.now c.args.cents.now c.args.numer.now c.args.denom.now) c.args.item (sym c.fits_items.ensures ∙ c.if-fits_items.true) (sym c.is_usable.ensures ∙ c.if-is_usable.false))

pub returns-else-fits_items : goal.returns-else-fits_items
returns-else-fits_items c = refused c.args.self (item_table c.args.kind.now c.args.cents.now c.args.numer.now c.args.denom.now) c.args.item (push_other c.args.self (item_table c.args.kind.now c.args.cents.now c.args.numer.now c.args.denom.now) c.args.item (sym c.fits_items.ensures ∙ c.if-fits_items.false))
