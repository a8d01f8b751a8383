-- `shifted` meets its contract: 64 bits hold the product and the sum.
use Rattle.kbm.proofs.Octaves.{plus_fits, plus_is}
use Rattle.kbm.proofs.shifted.Goals as goal

pub overflow_add-result : goal.overflow_add-result
overflow_add-result c = rw (c.from.ensures, c.from-2.ensures, c.from-3.ensures) (plus_fits c.ranges.entry c.ranges.q c.ranges.octave)

pub returns : goal.returns
returns c = rw (c.from.ensures, c.from-2.ensures, c.from-3.ensures) (plus_is c.ranges.entry c.ranges.q c.ranges.octave)
