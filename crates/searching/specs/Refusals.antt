-- Which refusals a search in usable tables leaves: 18 alone. That it leaves no other is proofs/Refusals.antt. Assumes nothing.
use Rattle.std.specs.Prelude.{◌≡◌}
use Rattle.base.specs.Numbers.{beyond_reach}
use Rattle.base.specs.Said.{Said, gives, refuses}

-- a value, or 18
pub data OrBeyond {A : Type 0} (s : Said A) : Type 0 where
  given : (a : A) → s ≡ gives a → OrBeyond s
  beyond : s ≡ refuses beyond_reach 0 → OrBeyond s
