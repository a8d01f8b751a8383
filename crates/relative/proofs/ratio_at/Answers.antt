-- `ratio_at` meets its contract: the place lies within each column, and its item can be used.
-- Assumes nothing.
use mathlib.Core.Bool.{true}
use mathlib.Core.Path.{◌∙◌, ◌≡◌, ap, subst, sym}
use Rattle.scl.specs.Items.{is_usable, ratio_of}
use Rattle.scl.specs.Table.{item_table}
use Rattle.scl.specs.declared.Item.{Item}
use Rattle.relative.proofs.Places.{items_at, items_usable_at}
use Rattle.relative.proofs.ratio_at.Goals as goal

pub ratio_of-requires : goal.ratio_of-requires
ratio_of-requires c = subst (λ (x : Item). is_usable x ≡ true) (sym c.item.ensures) (items_usable_at c.args.count c.args.items.now c.requires.0 c.args.i c.requires.1)

pub returns : goal.returns
returns c = (c.ratio_of.ensures.0 ∙ ap ratio_of (c.item.ensures ∙ sym (items_at c.args.count c.args.items.now c.requires.0 c.args.i c.requires.1)), c.ratio_of.ensures.1)
