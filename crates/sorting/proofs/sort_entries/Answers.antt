-- The columns end in the stable order of their ratios: as they are where they have it (InOrder.antt), else by the heapsort.
-- No loop.
use mathlib.Core.Path.{sym, ◌∙◌}
use Rattle.sorting.proofs.InOrder.{already}
use Rattle.sorting.proofs.sort_entries.Goals as goal

pub returns-then-is_in_order : goal.returns-then-is_in_order
returns-then-is_in_order c = already _ _ _ c.requires.0 c.requires.1 (sym c.is_in_order.ensures ∙ c.if-is_in_order.true)
