-- `math::odd_factors_u16` meets its contract: 0 apart, the number over 2 to its trailing zeros (Trailing.antt). No loop. Assumes nothing.
use mathlib.Core.Path.{ap, sym}
use Prim.Native.Nat.{◌<◌}
use native.Mathlib.Omega.{arith}
use lib.Count.{count_trailing_zeros}
use Rattle.math.specs.OddPart.{halved_while_even}
use Rattle.math.proofs.Trailing.{trailing_lt, divided_is, divisor_some}
use Rattle.math.proofs.odd_factors_u16.Goals as goal
use Rattle.math.proofs.odd_factors_u16.Goals.{Else-number-eq0}

pub returns-then-number-eq0 : goal.returns-then-number-eq0
unfolding halved_while_even
returns-then-number-eq0 c = sym (ap (halved_while_even 16) c.if-number-eq0.true)

-- a number that is not 0
some : (c : Else-number-eq0) → 0 < c.args.number
some c = omega (arith, c.if-number-eq0.false)

fewer : (c : Else-number-eq0) → count_trailing_zeros 16 c.args.number < 16
fewer c =
    let some : 0 < c.args.number = omega (arith, c.if-number-eq0.false) in
    trailing_lt 16 _ some c.ranges.number.fits

pub overflow_cast-result : goal.overflow_cast-result
overflow_cast-result c = record { fits = omega (arith, fewer (goal.at.overflow_cast-result c).Else-number-eq0) }

pub overflow_shl-result : goal.overflow_shl-result
overflow_shl-result c = fewer (goal.at.overflow_shl-result c).Else-number-eq0

pub returns : goal.returns
returns c = divided_is _ (some (goal.at.returns c).Else-number-eq0) c.ranges.number.fits
