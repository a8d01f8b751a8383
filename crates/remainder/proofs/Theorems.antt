-- "a public function's contract leaves one possible result" (document 01): a line for each public call. Assumes nothing.
use lib.Ieee.{Float, binary64, rem}
use Rattle.base.specs.Said.{One}
use Rattle.base.proofs.Said.{one_result}
use Rattle.remainder.specs.Euclid.{rem_euclid, div_euclid}

pub rem_of_one : (a b : Float) → One (λ r. r) (rem binary64 a b)
rem_of_one a b = one_result (rem binary64 a b)

pub rem_euclid_one : (a b : Float) → One (λ r. r) (rem_euclid a b)
rem_euclid_one a b = one_result (rem_euclid a b)

pub div_euclid_one : (a b : Float) → One (λ r. r) (div_euclid a b)
div_euclid_one a b = one_result (div_euclid a b)
