-- A ratio beyond all fractions by its exponent, any other by n * 2 ^ (1042 - k) and m * d / 2 ^ 32. No loop. Assumes nothing.
use Rattle.best.proofs.Below.{high_below, low_above, middle}
use Rattle.best.proofs.is_below.Goals as goal

pub returns-then-k-gt-MOST : goal.returns-then-k-gt-MOST
returns-then-k-gt-MOST c = high_below _ _ _ _ c.requires.1 c.requires.2 c.requires.4 c.if-k-gt-MOST.true

pub returns-then-k-lt-LEAST : goal.returns-then-k-lt-LEAST
returns-then-k-lt-LEAST c = low_above _ _ _ _ c.requires.0 c.requires.3 c.requires.5 c.if-k-lt-LEAST.true

pub returns : goal.returns
returns c =
    middle c.args.n c.args.d c.args.m c.args.k _ c.requires.1 c.if-k-lt-LEAST.false
    c.if-k-gt-MOST.false c.scaled.ensures
