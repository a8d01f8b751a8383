-- `print_text` meets its contract: the export of the mapping that was read, which is given, or the line of the reader's refusal.
-- Assumes nothing.
use Rattle.std.specs.Prelude.{Err}
use Rattle.base.specs.Said.{outcome}
use mathlib.Core.Path.{sym, ap, ◌∙◌}
use native.Mathlib.Omega.{arith}
use Rattle.copying.proofs.Copies.{detail_fits, refusal_printed, export_given, export_printed}
use Rattle.base.proofs.Clauses.{as_pair}
use Rattle.base.proofs.Clauses.{value_and_out}
use Rattle.copying.proofs.print_text.Goals as goal

pub write_export-requires : goal.write_export-requires
write_export-requires c = export_given c.args.text.now c.args.map.now c.args.out.now c.requires (ap outcome (sym c.in-Ok.is) ∙ c.read_kbm.ensures.0) c.read_kbm.ensures.1

pub write_refusal-requires : goal.write_refusal-requires
write_refusal-requires c = (detail_fits c.args.text.now c.args.map.now c.args.out.now c.requires (ap outcome (sym c.in-Err.is) ∙ c.read_kbm.ensures.0), omega (arith, c.requires))

pub returns-in-Ok : goal.returns-in-Ok
returns-in-Ok c =
    value_and_out
    (export_printed c.args.text.now c.args.map.now c.args.out.now c.requires (ap outcome (sym c.in-Ok.is) ∙ c.read_kbm.ensures.0) c.read_kbm.ensures.1 (as_pair c.write_export.ensures))

pub returns-in-Err : goal.returns-in-Err
returns-in-Err c =
    value_and_out
    (refusal_printed c.args.text.now c.args.map.now c.args.out.now c.requires (ap outcome (sym c.in-Err.is) ∙ c.read_kbm.ensures.0) (as_pair c.write_refusal.ensures))
