-- Two results of one input are equal, for every public call. Assumes nothing.
use Rattle.std.specs.Prelude.{None}
use mathlib.Core.Bool.{false}
use mathlib.Core.List.{List}
use Prim.Native.Nat.{ℕ}
use lib.Ieee.{Float}
use Rattle.base.specs.Said.{pick, One, outcome}
use Rattle.base.proofs.Said.{one_result}
use Rattle.floats.proofs.Theorems.{float_one}
use Rattle.printing.specs.PrintText.{text_of, placed, written}
use Rattle.keytable_lines.specs.Shown.{printable, cents_above}

-- of the place reached, and of the bytes left behind
pub write_three_one : (l : List ℕ) (at : ℕ) (x : Float) → One (λ r. r) (pick (printable x) (placed l at (text_of 3 false x)) None) × One (λ r. r) (pick (printable x) (written l at (text_of 3 false x)) l)
write_three_one l at x = (one_result (pick (printable x) (placed l at (text_of 3 false x)) None), one_result (pick (printable x) (written l at (text_of 3 false x)) l))

pub cents_above_one : (reference sound : Float) → One outcome (cents_above reference sound)
cents_above_one reference sound = float_one (cents_above reference sound)
