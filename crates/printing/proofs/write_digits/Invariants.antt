-- `write_digits` meets its contract. The loop's invariant: with the digits that are left written too, the bytes are as promised.
-- The measure is how many are left.
use mathlib.Core.Path.{◌≡◌, refl, sym, ap, ◌∙◌}
use Prim.Native.Nat.{ℕ, ◌+◌, ◌-◌, ◌≤◌, ◌<◌}
use native.Mathlib.Omega.{arith}
use lib.ListN.{length, length-set}
use lib.Seq.{sets}
use Rattle.printing.specs.PrintText.{digits_of}
use Rattle.integers.proofs.Tens.{ten_pos}
use Rattle.printing.proofs.Texts.{step_digits}
use Rattle.printing.proofs.write_digits.Given as goal

abbrev pub invariant-loop-left : goal.invariant-loop-left
invariant-loop-left l = (l.i + l.left ≡ l.at + l.k) × (length l.out ≡ length l.initial.out) × (l.left ≤ l.k) × (sets l.out l.i (digits_of l.left l.n) ≡ sets l.initial.out l.at (digits_of l.k l.n))

abbrev pub decreases-loop-left : goal.decreases-loop-left
decreases-loop-left l = l.left
