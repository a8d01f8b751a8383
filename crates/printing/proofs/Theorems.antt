-- For each input, refused ones too, a writer has one possible result, and the lent bytes one possible state after it: document
-- 01, "What the contracts settle". Assumes nothing.
use mathlib.Core.Bool.{Bool}
use mathlib.Core.List.{List}
use Prim.Native.Nat.{ℕ}
use lib.IntN.{ℤ, pos}
use lib.Ieee.{Float}
use Rattle.base.specs.Said.{One}
use Rattle.base.proofs.Said.{one_result}
use Rattle.printing.specs.PrintText.{placed, written, text_of, whole_text}

-- the writers: of the place reached, and of the bytes left behind
module _ (l : List ℕ) (at : ℕ) where
  pub write_fixed_one : (d : ℕ) (plus : Bool) (v : Float) → One (λ r. r) (placed l at (text_of d plus v)) × One (λ r. r) (written l at (text_of d plus v))
  write_fixed_one d plus v = (one_result (placed l at (text_of d plus v)), one_result (written l at (text_of d plus v)))

  pub write_u32_one : (n : ℕ) → One (λ r. r) (placed l at (whole_text (pos n))) × One (λ r. r) (written l at (whole_text (pos n)))
  write_u32_one n = (one_result (placed l at (whole_text (pos n))), one_result (written l at (whole_text (pos n))))

  pub write_i32_one : (z : ℤ) → One (λ r. r) (placed l at (whole_text z)) × One (λ r. r) (written l at (whole_text z))
  write_i32_one z = (one_result (placed l at (whole_text z)), one_result (written l at (whole_text z)))
