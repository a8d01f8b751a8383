-- What the answers of this crate say, in document 01's numbers and values: a scale says its count of items. Assumes nothing.
use Rattle.std.specs.Prelude.{ℕ, Result}
use Rattle.scl.specs.declared.Scl.{Scl}
use Rattle.base.specs.declared.Refusal.{Refusal}
use Rattle.base.specs.Said.{Said, outcome_by}

abbrev pub says_scl : Result Scl Refusal → Said ℕ
says_scl = outcome_by (λ s. s.count)
