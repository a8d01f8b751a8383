-- `magnitude` meets its contract: an i32 fits an i64, where its negative fits too.
-- Each cast keeps the number.
use mathlib.Core.Path.{◌≡◌}
use native.Mathlib.Omega.{arith}
use lib.IntN.{pos, nat_abs, ◌-ℤ◌}
use mir.Syntax.{w32, w64}
use mir.Val.{to_z, of_z}
use mir.Facts.{to_z-of_z}
use Rattle.printing.proofs.Integers.{wide_fits, wide_same, size_small, size_fits, turned, kept}
use Rattle.printing.proofs.magnitude.Goals as goal
use Rattle.printing.proofs.magnitude.Goals.{Then-wide-lt0}

negated : (c : Then-wide-lt0) → pos 0 -ℤ to_z w64 (of_z w64 (to_z w32 (of_z w32 c.args.z))) ≡ pos (nat_abs c.args.z)
negated c =
    let e = wide_same c.args.z c.ranges.z in
    rw e (turned c.args.z (rw e at c.if-wide-lt0.true))

pub overflow_cast-wide : goal.overflow_cast-wide
overflow_cast-wide c = rw (to_z-of_z c.ranges.z) (wide_fits c.args.z c.ranges.z)

pub overflow_sub-result : goal.overflow_sub-result
overflow_sub-result c = rw (negated c) (size_fits c.args.z c.ranges.z)

pub overflow_cast-result : goal.overflow_cast-result
overflow_cast-result c =
    let f = size_fits c.args.z c.ranges.z in
    rw (negated c, to_z-of_z f) (tt, record { fits = omega (arith, size_small c.args.z c.ranges.z) })

pub overflow_cast-result-else-wide-lt0 : goal.overflow_cast-result-else-wide-lt0
overflow_cast-result-else-wide-lt0 c =
    let e = wide_same c.args.z c.ranges.z in
    let k = kept c.args.z (rw e at c.if-wide-lt0.false) in
    rw (e, k) (tt, record { fits = omega (arith, size_small c.args.z c.ranges.z) })

pub returns-then-wide-lt0 : goal.returns-then-wide-lt0
returns-then-wide-lt0 c = rw (negated c, to_z-of_z (size_fits c.args.z c.ranges.z))

pub returns-else-wide-lt0 : goal.returns-else-wide-lt0
returns-else-wide-lt0 c = rw (wide_same c.args.z c.ranges.z)
