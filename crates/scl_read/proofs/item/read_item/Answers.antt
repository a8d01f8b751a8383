-- `read_item` meets its contract: a token goes by its first dot, and then by its first slash. No loop.
use mathlib.Core.Path.{◌∙◌}
use Rattle.scl_read.proofs.TokenReads.{takes_cents, takes_fraction, takes_whole}
use Rattle.scl_read.proofs.item.read_item.Goals as goal

pub returns-then-find-token : goal.returns-then-find-token
returns-then-find-token c = c.read_cents.ensures ∙ takes_cents _ c.find.ensures c.if-find-token.true

pub returns-then-slash-token : goal.returns-then-slash-token
returns-then-slash-token c = c.read_fraction.ensures ∙ takes_fraction _ c.find.ensures c.if-find-token.false c.find-slash.ensures c.if-slash-token.true

pub returns : goal.returns
returns c = c.read_whole.ensures ∙ takes_whole _ c.find.ensures c.if-find-token.false c.find-slash.ensures c.if-slash-token.false
