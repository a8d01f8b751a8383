-- Which refusals a computed ratio or pitch leaves: "A computed pitch or ratio outside 2^-900..2^900 gives 18 at that step"
-- (document 01, "Logarithm and power"). That relative pitches leave no other is proofs/Theorems.antt. Assumes nothing.
use Rattle.std.specs.Prelude.{◌≡◌, true, Float}
use Rattle.base.specs.Numbers.{beyond_reach}
use Rattle.base.specs.Said.{Said, gives, refuses}
use Rattle.floats.specs.Ranges.{in_reach}

-- a number in 2^-900..2^900, or 18
pub data ReachedOrBeyond (s : Said Float) : Type 0 where
  reached : (x : Float) → in_reach x ≡ true → s ≡ gives x → ReachedOrBeyond s
  beyond : s ≡ refuses beyond_reach 0 → ReachedOrBeyond s
