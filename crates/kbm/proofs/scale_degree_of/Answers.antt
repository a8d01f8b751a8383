-- `scale_degree_of` meets its contract: the mapping itself, counted from its reference key.
-- Assumes nothing.
use Rattle.kbm.specs.Degree.{scale_degree_of}
use Rattle.kbm.proofs.scale_degree_of.Goals as goal

pub returns : goal.returns
unfolding scale_degree_of
returns c = c.tested_degree.ensures
