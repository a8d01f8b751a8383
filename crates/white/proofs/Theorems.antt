-- Two results of one input are equal, for every public call. Assumes nothing.
use mathlib.Core.List.{List, reverse}
use Prim.Native.Nat.{ℕ, ◌-◌}
use lib.ListN.{length}
use Rattle.base.specs.Said.{One}
use Rattle.base.proofs.Said.{one_result}
use Rattle.white.specs.Trim.{front, back, run}

module _ (s : List ℕ) where
  pub trim_start_one : One (λ r. r) (run front 0 s)
  trim_start_one = one_result (run front 0 s)

  pub trim_end_one : One (λ r. r) (length s - run back 0 (reverse s))
  trim_end_one = one_result (length s - run back 0 (reverse s))
