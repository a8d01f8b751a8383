-- `under` meets its contract: what a shift leaves, and all of it where every digit is shifted out.
-- Each return is what the machine's shift leaves, or a rest by more than the number.
use mathlib.Core.Path.{sym}
use Prim.Native.Nat.{◌^◌}
use native.Mathlib.Nat.{mod-eq_of_lt, lt_of_lt_of_le, div-mul-le_self}
use native.Mathlib.Omega.{arith}
use lib.Pow.{pow_mono}
use Rattle.fixed.proofs.Scale.{cut, rest_is}
use borrow.Author.Rules.{rules}
use Rattle.fixed.proofs.under.Goals as goal

pub overflow_sub-result : goal.overflow_sub-result
overflow_sub-result c = rw (cut c.args.m c.args.t (omega arith)) (div-mul-le_self c.args.m (2 ^ c.args.t))

pub returns-then-t-lt64 : goal.returns-then-t-lt64
returns-then-t-lt64 c = rw (cut c.args.m c.args.t (omega arith)) (rest_is c.args.m c.args.t)

pub returns-else-t-lt64 : goal.returns-else-t-lt64
returns-else-t-lt64 c = sym (mod-eq_of_lt (lt_of_lt_of_le {m = 2 ^ 64} (omega arith) (pow_mono c.if-t-lt64.false)))
