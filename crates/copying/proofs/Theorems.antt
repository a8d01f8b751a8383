-- For each input, refused ones too, `print_copy` has one possible result, and the lent bytes one possible state after it: document
-- 01, "What the contracts settle". Assumes nothing.
use mathlib.Core.List.{List}
use Prim.Native.Nat.{ℕ}
use lib.ListN.{length, take}
use Rattle.base.specs.Tables.{over}
use Rattle.base.specs.Said.{One}
use Rattle.base.proofs.Said.{one_result}
use Rattle.copying.specs.Copy.{printed}

module _ (input : List ℕ) (n : ℕ) (out : List ℕ) where
  pub print_copy_one : One (λ r. r) (length (printed (take n input)))
  print_copy_one = one_result (length (printed (take n input)))

  pub print_copy_bytes : One (λ l. l) (over out (printed (take n input)))
  print_copy_bytes = one_result (over out (printed (take n input)))
