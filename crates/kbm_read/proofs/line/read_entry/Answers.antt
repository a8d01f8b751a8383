-- `read_entry` meets its contract: `x` and `X` are unmapped entries, and any other token is an i16 or no entry.
-- No loop: a cross is looked for, any other token goes to the numeral's reader.
use Rattle.std.proofs.Common.{rules, sym, ◌∙◌}
use mir.Facts.{to_z-of_z}
use mir.Syntax.{w16}
use Rattle.kbm_read.proofs.Takes.{cross_is, degree_is}
use Rattle.kbm_read.proofs.line.read_entry.Goals as goal

pub returns-then-is_cross : goal.returns-then-is_cross
returns-then-is_cross c = cross_is _ (sym c.is_cross.ensures ∙ c.if-is_cross.true)

pub returns-in_err-read : goal.returns-in_err-read
returns-in_err-read c = rw c.from_residual.ensures (degree_is _ (sym c.is_cross.ensures ∙ c.if-is_cross.false) c.in_err-read.ensures)

pub returns : goal.returns
returns c = rw (to_z-of_z {w = w16} {z = c.in_ok-read.field-0} (search rules)) (degree_is _ (sym c.is_cross.ensures ∙ c.if-is_cross.false) c.in_ok-read.ensures)
