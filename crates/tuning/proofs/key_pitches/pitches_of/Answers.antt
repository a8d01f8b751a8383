-- `pitches_of` meets its contract: the run counted from the reference key.
-- Assumes nothing.
use Rattle.relative.specs.Pitches.{pitch_of}
use Rattle.tuning.proofs.key_pitches.pitches_of.Goals as goal

pub returns : goal.returns
unfolding pitch_of
returns c = c.tested_run.ensures
