-- `find_key_by_pitch` meets its contract: the degree's search, then 11 for the key.
use mathlib.Core.Path.{◌∙◌, ap}
use Rattle.base.specs.Said.{Said, and_then}
use Rattle.searching.specs.Degrees.{key_of}
use Rattle.searching.specs.declared.approximation.Approximation.{Approximation}
use Rattle.finding.proofs.find_key_by_pitch.Goals as goal

pub returns : goal.returns
returns c = c.key_from.ensures ∙ ap (λ (t : Said Approximation). and_then t (key_of c.args.root)) c.find_by_pitch-degree.ensures
