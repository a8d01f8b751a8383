-- `top` meets its contract: the last one of an entry and its two children.
-- No loop.
use Rattle.sorting.proofs.Theory.{later_below}
use Rattle.sorting.proofs.top.Goals as goal

pub later-requires : goal.later-requires
later-requires c = (rw c.later-c.ensures (later_below _ _ _ _ c.requires.0), c.requires.1, c.requires.2)
