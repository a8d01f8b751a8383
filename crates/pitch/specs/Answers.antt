-- What each answer of this crate says, in document 01's numbers and values: a ratio and a pitch say their number.
-- Assumes nothing.
use Rattle.std.specs.Prelude.{Float, Result}
use Rattle.pitch.specs.declared.Pitch.{Pitch}
use Rattle.pitch.specs.declared.Ratio.{Ratio}
use Rattle.base.specs.declared.Refusal.{Refusal}
use Rattle.base.specs.Said.{Said, outcome_by}

abbrev pub says_ratio : Result Ratio Refusal → Said Float
says_ratio = outcome_by (λ r. r.0)

abbrev pub says_pitch : Result Pitch Refusal → Said Float
says_pitch = outcome_by (λ p. p.0)
