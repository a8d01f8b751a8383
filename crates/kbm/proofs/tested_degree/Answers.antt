-- `tested_degree` meets its contract: 10 for the table, then the key's degree.
-- Assumes nothing.
use mathlib.Core.Path.{◌∙◌, sym}
use Rattle.kbm.specs.Degree.{scale_degree_of}
use Rattle.kbm.proofs.tested_degree.Goals as goal

pub returns-then-is_table : goal.returns-then-is_table
unfolding scale_degree_of
returns-then-is_table c = rw (sym c.is_table.ensures ∙ c.if-is_table.true) c.degree_in.ensures

pub returns : goal.returns
unfolding scale_degree_of
returns c = rw (sym c.is_table.ensures ∙ c.if-is_table.false)
