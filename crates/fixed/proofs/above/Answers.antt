-- `above` meets its contract: a shift, and nothing where every digit is shifted out.
-- Each return is the machine's shift, or a quotient by more than the number.
use mathlib.Core.Path.{sym}
use Prim.Native.Nat.{◌^◌}
use native.Mathlib.Nat.{div-eq_of_lt, lt_of_lt_of_le}
use native.Mathlib.Omega.{arith}
use lib.Pow.{pow_mono}
use borrow.Author.Rules.{rules}
use Rattle.fixed.proofs.above.Goals as goal

pub returns-else-t-lt64 : goal.returns-else-t-lt64
returns-else-t-lt64 c = sym (div-eq_of_lt (lt_of_lt_of_le {m = 2 ^ 64} (omega arith) (pow_mono c.if-t-lt64.false)))
