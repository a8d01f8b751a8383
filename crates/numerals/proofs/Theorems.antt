-- For each input, refused ones too, `scan` has one possible result: document 01, "What the contracts settle". Assumes nothing.
use mathlib.Core.List.{List}
use Prim.Native.Nat.{ℕ}
use Rattle.base.specs.Said.{One}
use Rattle.base.proofs.Said.{one_result}
use Rattle.numerals.specs.Scan.{scan_of}

pub scan_one : (s : List ℕ) → One (λ r. r) (scan_of s)
scan_one s = one_result (scan_of s)
