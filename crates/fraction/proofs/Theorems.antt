-- The call of this crate has one result. Assumes nothing.
use Rattle.base.proofs.Said.{one_said}
use Prim.Native.Nat.{ℕ}
use lib.Ieee.{Float}
use Rattle.base.specs.Said.{Said, One, outcome}
use Rattle.fraction.specs.NearestFraction.{nearest_fraction}
use Rattle.fraction.specs.declared.NearestFraction.{NearestFraction}

pub nearest_one : (s : Said NearestFraction) → One outcome s
nearest_one = one_said

pub nearest_fraction_one : (r : Float) (limit : ℕ) → One outcome (nearest_fraction r limit)
nearest_fraction_one r limit = nearest_one (nearest_fraction r limit)
