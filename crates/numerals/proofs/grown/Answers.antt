-- `grown` meets its contract: one digit more, until there are 18.
-- Each return rewrites with its test.
use borrow.Author.Tests.{lt-ltb, le-ltb}
use Rattle.numerals.proofs.grown.Goals as goal

pub returns-then-n-lt-LEAST_OF_18_DIGITS : goal.returns-then-n-lt-LEAST_OF_18_DIGITS
returns-then-n-lt-LEAST_OF_18_DIGITS c = rw (lt-ltb _ _ c.if-n-lt-LEAST_OF_18_DIGITS.true)

pub returns-else-n-lt-LEAST_OF_18_DIGITS : goal.returns-else-n-lt-LEAST_OF_18_DIGITS
returns-else-n-lt-LEAST_OF_18_DIGITS c = rw (le-ltb _ _ c.if-n-lt-LEAST_OF_18_DIGITS.false)
