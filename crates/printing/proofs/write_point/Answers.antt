-- `write_point` meets its contract: a dot, where there are decimals.
-- Each return rewrites with its test.
use mathlib.Core.Path.{refl}
use native.Mathlib.Omega.{arith}
use borrow.Author.Tests.{lt-ltb, le-ltb}
use borrow.Author.Rules.{rules}
use Rattle.printing.proofs.write_point.Goals as goal

pub bounds-out-at : goal.bounds-out-at
bounds-out-at c = omega (arith, rw (lt-ltb _ _ c.if-d-gt0.true) at c.requires)

pub returns-then-d-gt0 : goal.returns-then-d-gt0
returns-then-d-gt0 c =
    record {
      value = rw (lt-ltb _ _ c.if-d-gt0.true) refl;
      out_after = rw (lt-ltb _ _ c.if-d-gt0.true) refl;
    }

pub returns : goal.returns
returns c =
    record {
      value = rw (le-ltb _ _ c.if-d-gt0.false) (omega arith);
      out_after = rw (le-ltb _ _ c.if-d-gt0.false) refl;
    }
