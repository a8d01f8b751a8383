-- The answer of an export: what is said determines it. Document 01, "What the contracts settle". And the writers of this crate: one
-- next place, one state of the lent bytes. Assumes nothing.
use mathlib.Core.Path.{refl}
use mathlib.Core.Bool.{false}
use mathlib.Core.List.{List}
use mathlib.Core.Logic.{inl, inr}
use Prim.Native.Nat.{ℕ, ◌+◌}
use lib.Ieee.{Float}
use lib.IntN.{ℤ}
use lib.ListN.{length}
use lib.Seq.{sets}
use Rattle.base.specs.Said.{Said, One, outcome}
use Rattle.base.proofs.Said.{one_result, one_said}
use Rattle.printing.specs.PrintText.{text_of, whole_text}
use Rattle.writing.specs.Lines.{line, number_text}

pub size_one : (s : Said ℕ) → One outcome s
size_one = one_said

-- a writer of the text t: of the place reached, and of the bytes left behind
abbrev Writes : List ℕ → ℕ → List ℕ → Type 0
Writes l at t = One (λ r. r) (at + length t) × One (λ r. r) (sets l at t)

writes_one : (l : List ℕ) (at : ℕ) (t : List ℕ) → Writes l at t
writes_one l at t = (one_result (at + length t), one_result (sets l at t))

module _ (l : List ℕ) (at : ℕ) where
  pub write_number_one : (n end : ℕ) → Writes l at (number_text n end)
  write_number_one n end = writes_one l at (number_text n end)

  pub write_line_one : (z : ℤ) → Writes l at (line (whole_text z))
  write_line_one z = writes_one l at (line (whole_text z))

  pub write_decimal_one : (d : ℕ) (x : Float) → Writes l at (line (text_of d false x))
  write_decimal_one d x = writes_one l at (line (text_of d false x))

  pub write_text_one : (t : List ℕ) → Writes l at (line t)
  write_text_one t = writes_one l at (line t)

pub line_length_one : (z : ℤ) → One (λ r. r) (length (line (whole_text z)))
line_length_one z = one_result (length (line (whole_text z)))

pub decimal_length_one : (d : ℕ) (x : Float) → One (λ r. r) (length (line (text_of d false x)))
decimal_length_one d x = one_result (length (line (text_of d false x)))
