-- `take_token` meets its contract: any description, the number of notes, or an item. No loop.
use mathlib.Core.Path.{◌∙◌}
use Rattle.scl_read.proofs.Takes.{due_step}
use Rattle.scl_read.proofs.line.take_token.Goals as goal

pub returns-in-Description : goal.returns-in-Description
returns-in-Description c = due_step _ _ _ _ c.in-Description.is

pub returns-in-Count : goal.returns-in-Count
returns-in-Count c = c.take_count.ensures ∙ due_step _ _ _ _ c.in-Count.is

pub returns-in-Items : goal.returns-in-Items
returns-in-Items c = c.take_item.ensures ∙ due_step _ _ _ _ c.in-Items.is
