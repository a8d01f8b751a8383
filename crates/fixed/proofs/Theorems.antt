-- "a public function's contract leaves one possible result" (document 01): a line for each public call. Assumes nothing.
use Prim.Native.Nat.{ℕ, ◌*◌, ◌^◌}
use lib.Ieee.Nearest.{closest}
use Rattle.base.specs.Said.{One}
use Rattle.base.proofs.Said.{one_result}
use Rattle.fixed.specs.Cuts.{cut_at}

pub fixed_of_one : (digits exponent d : ℕ) → One (λ r. r) (cut_at d (closest (digits * 2 ^ exponent * 10 ^ d) (2 ^ 1074)))
fixed_of_one digits exponent d = one_result (cut_at d (closest (digits * 2 ^ exponent * 10 ^ d) (2 ^ 1074)))
