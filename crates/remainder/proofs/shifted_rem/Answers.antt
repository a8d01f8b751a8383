-- The result is what is left of digits * 2 ^ shift.
-- Invariant: so much of the shift is left, and the rest has 53 bits. Measure: what is left of the shift.
use mathlib.Core.Path.{◌≡◌, refl, ap, ◌∙◌}
use Prim.Native.Nat.{ℕ, ◌+◌, ◌-◌, ◌*◌, ◌%◌, ◌^◌, ◌≤◌, ◌<◌}
use native.Mathlib.Nat.{mod-lt, lt_of_lt_of_le, le_of_lt}
use native.Mathlib.Omega.{arith}
use lib.Dec.{lit≤}
use lib.Pow.{shl_exact}
use Rattle.remainder.proofs.Modulo.{shift_more}
use Rattle.remainder.proofs.shifted_rem.Goals as goal

pub loop-left-init : goal.loop-left-init
loop-left-init c = (refl, c.requires.0)

pub overflow_sub-left : goal.overflow_sub-left
overflow_sub-left c = omega arith

pub loop-left-smaller : goal.loop-left-smaller
loop-left-smaller c = omega arith

pub loop-left-preserved : goal.loop-left-preserved
loop-left-preserved c =
    let fit : c.loop-left.rest * 2 ^ 11 % 2 ^ 64 ≡ c.loop-left.rest * 2 ^ 11 = shl_exact 53 11 64 c.loop-left.invariant.1 (lit≤ tt) in (
      ap (λ (z : ℕ). z % c.args.by * 2 ^ (c.loop-left.left - 11) % c.args.by) fit ∙ shift_more c.loop-left.rest c.args.by c.loop-left.left (le_of_lt c.loop-left-test.true) ∙ c.loop-left.invariant.0,
      lt_of_lt_of_le (mod-lt _ c.requires.1) (le_of_lt c.requires.2),
    )

pub overflow_shl-result : goal.overflow_shl-result
overflow_shl-result c = omega arith

pub returns : goal.returns
returns c =
    let few : 53 + c.loop-left.left ≤ 64 = omega arith in
    ap (λ (z : ℕ). z % c.args.by) (shl_exact 53 c.loop-left.left 64 c.loop-left.invariant.1 few) ∙ c.loop-left.invariant.0
