-- Two results of one input are equal, for every public call. Assumes nothing.
use mathlib.Core.List.{List}
use Prim.Native.Nat.{ℕ}
use Rattle.base.specs.Said.{One}
use Rattle.base.proofs.Said.{one_result}
use Rattle.utf8.specs.Utf8Machine.{none_due, utf8_from}

pub is_utf8_one : (s : List ℕ) → One (λ r. r) (utf8_from none_due s)
is_utf8_one s = one_result (utf8_from none_due s)
