-- Two results of one input are equal: of `read_kbm`, its answer and the table that it leaves. Assumes nothing.
use mathlib.Core.List.{List}
use Prim.Native.Nat.{ℕ}
use lib.IntN.{ℤ}
use lib.ListN.{length}
use Rattle.base.specs.Said.{One, outcome}
use Rattle.base.proofs.Said.{one_result, one_said}
use Rattle.kbm_read.specs.Reader.{read_of, after_read}

module _ (text : List ℕ) (map : List ℤ) where
  pub read_kbm_one : One outcome (read_of (length map) text)
  read_kbm_one = one_said (read_of (length map) text)

  pub read_kbm_table : One (λ r. r) (after_read text map)
  read_kbm_table = one_result (after_read text map)
