-- `white_at` answers the width of the white character that stands from `i` on.
-- No loop.
use Rattle.white.specs.Trim.{white2, white3}
use Rattle.white.proofs.Widths.{width_told}
use Rattle.white.proofs.white_at.Goals as goal

pub returns : goal.returns
returns c =
    width_told white2 white3 _ c.byte_after-b.ensures c.byte_after-c.ensures c.byte_after-d.ensures
    c.is_white1.ensures c.is_white2.ensures c.is_white3.ensures c.width.ensures
