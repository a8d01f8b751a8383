-- `fraction_ratio` meets its contract: u32 numbers are f64 numbers, and their quotient lies in 2^-32..2^32.
use Rattle.scl.proofs.Items.{fraction_told}
use borrow.Author.Rules.{rules}
use Rattle.scl_tables.proofs.reduction.fraction_ratio.Goals as goal

pub returns : goal.returns
returns c = rw (c.from.ensures, c.from-2.ensures) (fraction_told c.args.numer c.args.denom c.requires.0 (search rules) c.requires.1 (search rules))
