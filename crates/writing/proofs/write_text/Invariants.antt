-- `write_text` meets its contract. The invariant: with the bytes that are left and LF written too, the bytes are as promised.
-- The measure is the number of bytes that are left.
use mathlib.Core.Path.{◌≡◌, refl, sym, ◌∙◌}
use Prim.Native.Nat.{◌+◌, ◌-◌, ◌≤◌}
use native.Mathlib.Nat.{add-zero, add_assoc}
use native.Mathlib.Omega.{arith}
use lib.ListN.{length, drop, length-set}
use lib.Seq.{sets}
use Rattle.writing.specs.Lines.{line}
use Rattle.writing.proofs.Lines.{length_line, byte_sets, end_sets}
use Rattle.writing.proofs.write_text.Given as goal

abbrev pub invariant-loop-i : goal.invariant-loop-i
invariant-loop-i l = (l.i ≤ length l.text) × (length l.out ≡ length l.initial.out) × (sets l.out (l.at + l.i) (line (drop l.i l.text)) ≡ sets l.initial.out l.at (line l.text))

abbrev pub decreases-loop-i : goal.decreases-loop-i
decreases-loop-i l = length l.text - l.i
