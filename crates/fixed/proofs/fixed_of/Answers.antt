-- `fixed_of` meets its contract: digits * 2^exponent units of 2^-1074, as a fraction of a power of two.
-- Each return cites the law for its side of 2^0.
use mathlib.Core.Path.{ap, ◌∙◌}
use Prim.Native.Nat.{◌^◌}
use native.Mathlib.Omega.{arith}
use Rattle.fixed.specs.Cuts.{cut_at}
use Rattle.fixed.proofs.Scale.{units_low, units_high}
use borrow.Author.Rules.{rules}
use Rattle.fixed.proofs.fixed_of.Goals as goal

pub returns-then-exponent-le1074 : goal.returns-then-exponent-le1074
returns-then-exponent-le1074 c = c.fixed.ensures ∙ ap (cut_at c.args.d) (units_low c.args.digits c.args.exponent (10 ^ c.args.d) c.if-exponent-le1074.true)

pub returns-else-exponent-le1074 : goal.returns-else-exponent-le1074
returns-else-exponent-le1074 c = c.fixed-else-exponent-le1074.ensures ∙ ap (cut_at c.args.d) (units_high c.args.digits c.args.exponent (10 ^ c.args.d) (omega (arith, c.requires.1, c.if-exponent-le1074.false)))
