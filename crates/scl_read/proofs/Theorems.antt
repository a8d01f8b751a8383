-- Two results of one input are equal: of `read_scl`, its answer and the columns that it leaves, those of the items and those of the
-- sorted list. Assumes nothing.
use mathlib.Core.List.{List}
use Prim.Native.Nat.{ℕ}
use Rattle.base.specs.Said.{One, outcome}
use Rattle.base.proofs.Said.{one_result, one_said}
use Rattle.scl.specs.Table.{ItemTable}
use Rattle.scl_tables.specs.Room.{room_of}
use Rattle.sorted.specs.Lent.{ListTable}
use Rattle.scl_read.specs.Reader.{read_of, after_items, after_sorted}

module _ (text : List ℕ) (t : ItemTable) (l : ListTable) where
  pub read_scl_one : One outcome (read_of (room_of t l) text)
  read_scl_one = one_said (read_of (room_of t l) text)

  pub read_scl_items : One (λ r. r) (after_items text t l)
  read_scl_items = one_result (after_items text t l)

  pub read_scl_list : One (λ r. r) (after_sorted text t l)
  read_scl_list = one_result (after_sorted text t l)
