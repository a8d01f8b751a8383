-- m * d / 2 ^ 32 by the halves of m: no product or sum passes 64 bits, and nothing is lost. No loop. Assumes nothing.
use Rattle.best.proofs.Below.{parts_sum}
use Rattle.best.proofs.scaled.Goals as goal

pub returns : goal.returns
returns c = parts_sum c.args.m c.args.d
