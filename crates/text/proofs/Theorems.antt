-- Two results of one input are equal, for every public call. Assumes nothing.
use mathlib.Core.List.{List}
use Prim.Native.Nat.{ℕ}
use lib.ListN.{drop}
use Rattle.base.specs.Said.{One}
use Rattle.base.proofs.Said.{one_result}
use Rattle.text.specs.Cut.{cut}
use Rattle.text.specs.ReadLine.{token_length, strictly, line_of}

module _ (s : List ℕ) where
  pub next_line_one : (at : ℕ) → One (λ r. r) (cut at (drop at s))
  next_line_one at = one_result (cut at (drop at s))

  pub token_end_one : One (λ r. r) (token_length s)
  token_end_one = one_result (token_length s)

  pub read_line_one : (a e : ℕ) → One (λ r. r) (line_of strictly s a e)
  read_line_one a e = one_result (line_of strictly s a e)
