-- What the table has for these bits, in the quarter that the two highest of them name.
-- No loop.
use native.Mathlib.Omega.{arith}
use borrow.Author.Rules.{rules}
use Rattle.power_first.proofs.first_steps.Goals as goal

pub returns-then-i-lt256 : goal.returns-then-i-lt256
returns-then-i-lt256 c = c.first_steps_at-quarters.ensures.first _ (omega arith)

pub returns-else-i-lt256 : goal.returns-else-i-lt256
returns-else-i-lt256 c = c.first_steps_at-quarters.ensures.second _ (omega arith)

pub returns-then-i-lt768 : goal.returns-then-i-lt768
returns-then-i-lt768 c = c.first_steps_at-quarters.ensures.third _ (omega arith)

pub returns-else-i-lt768 : goal.returns-else-i-lt768
returns-else-i-lt768 c = c.first_steps_at-quarters.ensures.fourth _ (omega arith)
