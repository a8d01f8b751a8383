-- `white_before` answers the width of the white character that stands before `e`, read from its end.
-- No loop.
use Rattle.white.specs.Trim.{back2, back3}
use Rattle.white.proofs.Widths.{width_told}
use Rattle.white.proofs.white_before.Goals as goal

pub returns : goal.returns
returns c =
    width_told back2 back3 _ c.byte_before-b.ensures c.byte_before-c.ensures c.byte_before-d.ensures
    c.is_white1.ensures c.is_white2.ensures c.is_white3.ensures c.width.ensures
