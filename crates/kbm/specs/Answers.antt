-- What each answer of this crate says, in document 01's numbers and values: a degree says its number. Assumes nothing.
use Rattle.std.specs.Prelude.{ℤ, Result}
use Rattle.key.specs.declared.Degree.{Degree}
use Rattle.base.specs.declared.Refusal.{Refusal}
use Rattle.base.specs.Said.{Said, outcome_by}

abbrev pub says_degree : Result Degree Refusal → Said ℤ
says_degree = outcome_by (λ d. d.0)
