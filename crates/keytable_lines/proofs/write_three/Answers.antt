-- `write_three` meets its contract: what passes the test is what `write_fixed` takes. Assumes nothing.
use mathlib.Core.Path.{◌≡◌, sym, ◌∙◌}
use mathlib.Core.Bool.{true}
use native.Mathlib.Omega.{arith}
use Rattle.keytable_lines.specs.Shown.{printable}
use Rattle.keytable_lines.proofs.Printable.{is_limited}
use borrow.Author.Rules.{rules}
use Rattle.base.proofs.Clauses.{value_and_out}
use Rattle.keytable_lines.proofs.write_three.Goals as goal
use Rattle.keytable_lines.proofs.write_three.Goals.{Then-is_printable}

yes : (c : Then-is_printable) → printable c.args.x ≡ true
yes c = sym c.is_printable.ensures ∙ c.if-is_printable.true

pub write_fixed-requires : goal.write_fixed-requires
write_fixed-requires c = (is_limited c.args.x (yes (goal.at.write_fixed-requires c).Then-is_printable), omega arith)

pub returns-then-is_printable : goal.returns-then-is_printable
returns-then-is_printable c =
    record {
      value = rw (yes (goal.at.returns-then-is_printable c).Then-is_printable) c.write_fixed.ensures.value;
      out_after = rw (yes (goal.at.returns-then-is_printable c).Then-is_printable) c.write_fixed.ensures.out_after;
    }

pub returns : goal.returns
returns c =
    value_and_out
    (rw (sym c.is_printable.ensures ∙ c.if-is_printable.false) (search rules))
