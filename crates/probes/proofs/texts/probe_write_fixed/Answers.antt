-- `probe_write_fixed` meets its contract: what may be printed is what `write_fixed` asks for. Assumes nothing.
use mathlib.Core.Path.{◌≡◌, sym, ◌∙◌, ap}
use mathlib.Core.Bool.{true}
use borrow.Author.Rules.{rules}
use Rattle.base.specs.Said.{pick}
use Rattle.probes.specs.Probes.{next_of, printable_to}
use Rattle.probes.proofs.Printable.{is_limited, few}
use Rattle.base.proofs.Clauses.{value_and_out}
use Rattle.probes.proofs.texts.probe_write_fixed.Goals as goal
use Rattle.probes.proofs.texts.probe_write_fixed.Goals.{Then-is_printable}

yes : (c : Then-is_printable) → printable_to c.args.x c.args.decimals ≡ true
yes c = sym c.is_printable.ensures ∙ c.if-is_printable.true

pub write_fixed-requires : goal.write_fixed-requires
write_fixed-requires c = (is_limited c.args.x c.args.decimals (yes (goal.at.write_fixed-requires c).Then-is_printable), few c.args.x c.args.decimals (yes (goal.at.write_fixed-requires c).Then-is_printable))

pub returns-then-is_printable : goal.returns-then-is_printable
returns-then-is_printable c =
    record {
      value = rw (yes (goal.at.returns-then-is_printable c).Then-is_printable) (c.place.ensures ∙ ap next_of c.write_fixed.ensures.value);
      out_after = rw (yes (goal.at.returns-then-is_printable c).Then-is_printable) c.write_fixed.ensures.out_after;
    }

pub returns : goal.returns
returns c =
    value_and_out
    (rw (sym c.is_printable.ensures ∙ c.if-is_printable.false) (search rules))
