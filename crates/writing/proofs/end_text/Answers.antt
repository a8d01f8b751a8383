-- `end_text` meets its contract: a place was reached, and it lies within the lent bytes.
-- Assumes nothing.
use mathlib.Core.Path.{◌≡◌, refl, ap}
use native.Mathlib.Omega.{arith}
use borrow.Author.Rules.{rules}
use Rattle.writing.specs.Lines.{place_reached}
use Rattle.writing.proofs.end_text.Goals as goal
use Rattle.writing.proofs.end_text.Goals.{In-Some}

-- the place is the one that the match found
found : (c : In-Some) → place_reached c.args.reached ≡ c.in-Some.next
found c = ap place_reached c.in-Some.is

pub bounds-out-next : goal.bounds-out-next
bounds-out-next c = omega (arith, found c, c.requires.1)

pub overflow_add-result : goal.overflow_add-result
overflow_add-result c = omega (arith, found c, c.requires.1)

pub returns : goal.returns
returns c =
    record {
      value = rw (found c) refl;
      out_after = rw (found c) refl;
    }
