-- `write_export` meets its contract: the export is given, so it is not refused.
-- Assumes nothing.
use Rattle.std.specs.Prelude.{Err}
use Rattle.base.specs.Said.{outcome}
use mathlib.Core.Path.{sym, ap, ◌∙◌}
use Rattle.copying.proofs.Given.{given_size, given_bytes, given_always}
use Rattle.base.proofs.Clauses.{value_and_out}
use Rattle.copying.proofs.write_export.Goals as goal

pub returns-in-Ok : goal.returns-in-Ok
returns-in-Ok c =
    record {
      value = given_size c.requires (ap outcome (sym c.in-Ok.is) ∙ c.export_kbm.ensures.value);
      out_after = given_bytes c.requires c.args.out.now c.export_kbm.ensures.out_after;
    }

pub returns-in-Err : goal.returns-in-Err
returns-in-Err c =
    value_and_out
    (absurd (given_always c.requires (ap outcome (sym c.in-Err.is) ∙ c.export_kbm.ensures.value)))
