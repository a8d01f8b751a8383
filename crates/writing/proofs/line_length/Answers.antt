-- `line_length` meets its contract: it writes the integer into bytes of its own, which have room for any line.
-- Assumes nothing.
use native.Mathlib.Omega.{arith}
use borrow.Author.Rules.{rules}
use mir.Facts.{to_z-of_z}
use mir.Syntax.{w32}
use Rattle.writing.proofs.Lines.{whole_short}
use Rattle.writing.proofs.line_length.Goals as goal

pub write_line-requires : goal.write_line-requires
write_line-requires c = rw (to_z-of_z {w = w32} c.ranges.z) (omega (arith, whole_short c.args.z))

pub returns : goal.returns
returns c =
    let e = rw (to_z-of_z {w = w32} c.ranges.z) at c.write_line.ensures.value in
    (omega (arith, e), omega (arith, e, whole_short c.args.z))
