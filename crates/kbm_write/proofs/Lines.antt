-- The lines of a mapping: its keys, its pitch, an entry. Assumes nothing.
use Rattle.std.specs.Prelude.{Some, None, Option}
use mathlib.Core.Path.{◌≡◌, refl, ◌∙◌}
use mathlib.Core.Bool.{true, false}
use mathlib.Core.List.{List, [], ◌∷◌}
use Prim.Native.Nat.{ℕ, ◌+◌, ◌≤◌}
use native.Mathlib.Numerals.{add-one}
use native.Mathlib.Omega.{arith}
use lib.Dec.{T, lit≤}
use lib.IntN.{ℤ}
use lib.ListN.{length, set, length-append}
use lib.Seq.{sets}
use lib.Ieee.{Float}
use Rattle.floats.specs.Ranges.{in_pitch}
use Rattle.floats.proofs.Ranges.{pitch_says}
use Rattle.printing.specs.PrintText.{limited, whole_text}
use Rattle.printing.proofs.Limits.{limited_within}
use Rattle.writing.specs.Lines.{line, lines_text}
use Rattle.writing.proofs.Lines.{whole_short, then_lines, last_line}
use Rattle.kbm.specs.Table.{is_unmapped, entry_of}
use Rattle.kbm_write.specs.Export.{entry_text}

-- a usable pitch is one that is printed
pub pitch_limited : (x : Float) → in_pitch x ≡ true → T (limited x)
pitch_limited x h = limited_within (pitch_says x h) (lit≤ tt)

-- how long an entry's line is at most
pub entry_short : (e : (Option ℤ)) → length (line (entry_text e)) ≤ 32
entry_short (Some d) = whole_short d
entry_short None = lit≤ tt

-- the text of an entry, from the test that tells `x` from a degree
module _ (z : ℤ) where
  pub unmapped_text : is_unmapped z ≡ true → entry_text (entry_of z) ≡ 120 ∷ []
  unmapped_text h = rw h

  pub mapped_text : is_unmapped z ≡ false → entry_text (entry_of z) ≡ whole_text z
  mapped_text h = rw h

-- `x` and LF are two stores
pub x_written : (l : List ℕ) (at : ℕ) {t : List ℕ} → t ≡ 120 ∷ [] → (at + 2 ≡ at + length (line t)) × (set (set l at 120) (at + 1) 10 ≡ sets l at (line t))
x_written l at e = rw (e, add-one at) (refl, refl)

-- five lines
module _ (a b c d e : List ℕ) where
  pub five_length : length (lines_text (a ∷ b ∷ c ∷ d ∷ e ∷ [])) ≡ length (line a) + (length (line b) + (length (line c) + (length (line d) + length (line e))))
  unfolding lines_text
  five_length = simp length-append (omega arith)

  pub five_written : (l0 l1 l2 l3 l4 l5 : List ℕ) (n1 n2 n3 n4 : ℕ)
      → l1 ≡ sets l0 0 (line a) → n1 ≡ 0 + length (line a) → l2 ≡ sets l1 n1 (line b) → n2 ≡ n1 + length (line b)
      → l3 ≡ sets l2 n2 (line c) → n3 ≡ n2 + length (line c) → l4 ≡ sets l3 n3 (line d) → n4 ≡ n3 + length (line d)
      → l5 ≡ sets l4 n4 (line e) → l5 ≡ sets l0 0 (lines_text (a ∷ b ∷ c ∷ d ∷ e ∷ []))
  five_written l0 l1 l2 l3 l4 l5 n1 n2 n3 n4 e1 p1 e2 p2 e3 p3 e4 p4 e5 =
      e5 ∙ last_line l4 n4 e
      ∙ then_lines l3 l4 n3 n4 d (e ∷ []) e4 p4
      ∙ then_lines l2 l3 n2 n3 c (d ∷ e ∷ []) e3 p3
      ∙ then_lines l1 l2 n1 n2 b (c ∷ d ∷ e ∷ []) e2 p2
      ∙ then_lines l0 l1 0 n1 a (b ∷ c ∷ d ∷ e ∷ []) e1 p1
