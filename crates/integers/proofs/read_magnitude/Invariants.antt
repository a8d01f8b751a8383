-- `read_magnitude` answers the number that the digits write, within `top`.
-- Invariant: what all of them are is what the rest makes of the number so far, which is within `top`.
use mathlib.Core.Path.{◌≡◌}
use Prim.Native.Nat.{◌≤◌}
use lib.ListN.{drop}
use Rattle.integers.specs.Integer.{scan, magnitude_of}
use Rattle.integers.proofs.read_magnitude.Given as goal

abbrev pub invariant-loop-b : goal.invariant-loop-b
invariant-loop-b l = (l.number ≤ l.top) × (magnitude_of l.top l.digits ≡ scan l.top l.number (drop l.b-index l.digits))
