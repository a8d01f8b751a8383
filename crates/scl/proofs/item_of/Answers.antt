-- `item_of` meets its contract: another kind is an item in cents that are no number.
use borrow.Author.Rules.{rules}
use mathlib.Core.Path.{sym, ◌∙◌, ap}
use Rattle.scl.specs.declared.Item.TheVariants.{Cents}
use Rattle.scl.proofs.Table.{item_none, no_number}
use Rattle.scl.proofs.item_of.Goals as goal

pub returns-in_default : goal.returns-in_default
returns-in_default c = ap Cents no_number ∙ sym (item_none c.args.kind c.args.cents c.args.numer c.args.denom (search rules) (search rules) (search rules))
