-- `write_digits` meets its contract. The loop's invariant: with the digits that are left written too, the bytes are as promised.
-- The measure is how many are left.
use mathlib.Core.Path.{◌≡◌, refl, sym, ap, ◌∙◌}
use Prim.Native.Nat.{ℕ, ◌+◌, ◌-◌, ◌≤◌, ◌<◌}
use native.Mathlib.Omega.{arith}
use lib.ListN.{length, length-set}
use lib.Seq.{sets}
use Rattle.printing.specs.PrintText.{digits_of}
use Rattle.integers.proofs.Tens.{ten_pos}
use Rattle.printing.proofs.Texts.{step_digits}
use Rattle.printing.proofs.write_digits.Goals as goal
use Rattle.printing.proofs.write_digits.Goals.{After-pow10-p}

positive : (c : After-pow10-p) → 0 < c.pow10-p.result
positive c = rw c.pow10-p.ensures (ten_pos (c.loop-left.left - 1))

pub loop-left-init : goal.loop-left-init
loop-left-init c = (refl, refl, omega arith, refl)

pub overflow_sub-left : goal.overflow_sub-left
overflow_sub-left c = omega arith

pub pow10-p-requires : goal.pow10-p-requires
pow10-p-requires c = omega arith

pub nonzero_div-out : goal.nonzero_div-out
nonzero_div-out c = omega (arith, positive c)

pub overflow_cast-out : goal.overflow_cast-out
overflow_cast-out c = omega arith

pub overflow_add-out : goal.overflow_add-out
overflow_add-out c = omega arith

pub bounds-out-i : goal.bounds-out-i
bounds-out-i c = omega arith

pub overflow_add-i : goal.overflow_add-i
overflow_add-i c = omega arith

pub loop-left-smaller : goal.loop-left-smaller
loop-left-smaller c = omega arith

pub loop-left-preserved : goal.loop-left-preserved
loop-left-preserved c = (
  omega arith,
  simp length-set c.loop-left.invariant.1,
  omega arith,
  step_digits c.args.n c.pow10-p.result c.loop-left.left c.loop-left.i c.loop-left.out c.loop-left-test.true c.pow10-p.ensures ∙ c.loop-left.invariant.3,
)

pub shape_of-out : goal.shape_of-out
shape_of-out c = c.loop-left.invariant.1

pub returns : goal.returns
returns c =
    let z : c.loop-left.left ≡ 0 = omega arith in
    record {
      value = omega arith;
      out_after = sym (ap (λ (x : ℕ). sets c.loop-left.out c.loop-left.i (digits_of x c.args.n)) z) ∙ c.loop-left.invariant.3;
    }
