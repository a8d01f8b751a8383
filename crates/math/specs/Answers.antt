-- What each answer of this crate says, in document 01's numbers and values. Assumes nothing.
use Rattle.std.specs.Prelude.{ℕ, Result, Ok, Err}
use Rattle.math.specs.declared.Division.{Division}
use Rattle.base.specs.declared.Refusal.{Refusal}
use Rattle.base.specs.Said.{Said, gives, refusal}
use Rattle.math.specs.Division.{QuotientAndRemainder}

abbrev pub says_division : (Result Division Refusal) → Said QuotientAndRemainder
says_division (Ok d) = gives (record { quotient = d.quotient; remainder = d.remainder })
says_division (Err r) = refusal r
