-- `entry_length` meets its contract: it writes the entry into bytes of its own, which have room for any line.
-- Assumes nothing.
use native.Mathlib.Omega.{arith}
use borrow.Author.Rules.{rules}
use mir.Facts.{to_z-of_z}
use mir.Syntax.{w32}
use Rattle.kbm.specs.Table.{entry_of}
use Rattle.kbm_write.proofs.Lines.{entry_short}
use Rattle.kbm_write.proofs.entry_length.Goals as goal

pub write_entry-requires : goal.write_entry-requires
write_entry-requires c = rw (to_z-of_z {w = w32} c.ranges.z) (omega (arith, entry_short (entry_of c.args.z)))

pub returns : goal.returns
returns c =
    let e = rw (to_z-of_z {w = w32} c.ranges.z) at c.write_entry.ensures.value in
    (omega (arith, e), omega (arith, e, entry_short (entry_of c.args.z)))
