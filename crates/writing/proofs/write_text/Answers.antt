-- `write_text` meets its contract. The invariant: with the bytes that are left and LF written too, the bytes are as promised.
-- The measure is the number of bytes that are left.
use mathlib.Core.Path.{◌≡◌, refl, sym, ◌∙◌}
use Prim.Native.Nat.{◌+◌, ◌-◌, ◌≤◌}
use native.Mathlib.Nat.{add-zero, add_assoc}
use native.Mathlib.Omega.{arith}
use lib.ListN.{length, drop, length-set}
use lib.Seq.{sets}
use Rattle.writing.specs.Lines.{line}
use Rattle.writing.proofs.Lines.{length_line, byte_sets, end_sets}
use Rattle.writing.proofs.write_text.Goals as goal
use Rattle.writing.proofs.write_text.Goals.{Start}

-- there is room for the text and LF
room : (c : Start) → c.args.at + (length c.args.text.now + 1) ≤ length c.args.out.now
room c = omega (arith, length_line c.args.text.now, c.requires)

pub loop-i-init : goal.loop-i-init
loop-i-init c = (omega arith, refl, rw (add-zero c.args.at))

pub bounds-text-i : goal.bounds-text-i
bounds-text-i c = omega arith

pub overflow_add-out : goal.overflow_add-out
overflow_add-out c = omega (arith, room (goal.at.overflow_add-out c).Start)

pub bounds-out-at : goal.bounds-out-at
bounds-out-at c = omega (arith, room (goal.at.bounds-out-at c).Start)

pub overflow_add-i : goal.overflow_add-i
overflow_add-i c = omega arith

pub loop-i-smaller : goal.loop-i-smaller
loop-i-smaller c = omega arith

pub loop-i-preserved : goal.loop-i-preserved
loop-i-preserved c = (
  omega arith,
  simp length-set c.loop-i.invariant.1,
  rw (sym (add_assoc c.args.at c.loop-i.i 1)) (byte_sets c.args.text.now c.loop-i.i c.loop-i.out (c.args.at + c.loop-i.i) (omega arith) ∙ c.loop-i.invariant.2),
)

pub overflow_add-out-2 : goal.overflow_add-out-2
overflow_add-out-2 c = omega (arith, room (goal.at.overflow_add-out-2 c).Start)

pub bounds-out-at-2 : goal.bounds-out-at-2
bounds-out-at-2 c = omega (arith, room (goal.at.bounds-out-at-2 c).Start)

pub overflow_add-result : goal.overflow_add-result
overflow_add-result c = omega (arith, room (goal.at.overflow_add-result c).Start)

pub overflow_add-result-2 : goal.overflow_add-result-2
overflow_add-result-2 c = omega (arith, room (goal.at.overflow_add-result-2 c).Start)

pub shape_of-out : goal.shape_of-out
shape_of-out c = simp length-set c.loop-i.invariant.1

pub returns : goal.returns
returns c =
    record {
      value = omega (arith, length_line c.args.text.now);
      out_after = end_sets c.args.text.now c.loop-i.i c.loop-i.out (c.args.at + c.loop-i.i) (omega arith) ∙ c.loop-i.invariant.2;
    }
