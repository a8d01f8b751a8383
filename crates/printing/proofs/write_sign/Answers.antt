-- `write_sign` meets its contract: a minus, a plus, or nothing.
-- Each return rewrites with the tests that led there.
use mathlib.Core.Path.{refl}
use native.Mathlib.Omega.{arith}
use borrow.Author.Rules.{rules}
use Rattle.printing.proofs.write_sign.Goals as goal

pub bounds-out-at : goal.bounds-out-at
bounds-out-at c = omega (arith, rw c.if-negative.true at c.requires)

pub returns-then-negative : goal.returns-then-negative
returns-then-negative c =
    record {
      value = rw c.if-negative.true refl;
      out_after = rw c.if-negative.true refl;
    }

pub bounds-out-at-then-plus : goal.bounds-out-at-then-plus
bounds-out-at-then-plus c = omega (arith, rw (c.if-negative.false, c.if-plus.true) at c.requires)

pub returns-then-plus : goal.returns-then-plus
returns-then-plus c =
    record {
      value = rw (c.if-negative.false, c.if-plus.true) refl;
      out_after = rw (c.if-negative.false, c.if-plus.true) refl;
    }

pub returns : goal.returns
returns c =
    record {
      value = rw (c.if-negative.false, c.if-plus.false) (omega arith);
      out_after = rw (c.if-negative.false, c.if-plus.false) refl;
    }
