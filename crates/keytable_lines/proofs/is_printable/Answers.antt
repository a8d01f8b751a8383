-- `is_printable` meets its contract: one comparison. Assumes nothing.
use mathlib.Core.Path.{sym, refl}
use Rattle.keytable_lines.proofs.is_printable.Goals as goal

pub returns : goal.returns
returns c = rw (sym c.abs_of.ensures) refl
