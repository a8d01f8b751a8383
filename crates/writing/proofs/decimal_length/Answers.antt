-- `decimal_length` meets its contract: it writes the number into bytes of its own, which have room for any line.
-- Assumes nothing.
use native.Mathlib.Omega.{arith}
use borrow.Author.Rules.{rules}
use Rattle.writing.proofs.Lines.{decimal_short}
use Rattle.writing.proofs.decimal_length.Goals as goal

pub write_decimal-requires : goal.write_decimal-requires
write_decimal-requires c = (c.requires.0, c.requires.1, omega (arith, decimal_short c.args.d c.args.x c.requires.1))

pub returns : goal.returns
returns c = (omega (arith, c.write_decimal.ensures.value), omega (arith, c.write_decimal.ensures.value, decimal_short c.args.d c.args.x c.requires.1))
