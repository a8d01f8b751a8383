-- `print_copy` meets its contract: 12 for a long input, else what is printed for its first bytes.
-- Assumes nothing.
use mathlib.Core.Path.{refl}
use native.Mathlib.Omega.{arith}
use lib.ListN.{take}
use Rattle.copying.proofs.Copies.{first_long, first_short, first_most, long_printed, short_printed}
use Rattle.base.proofs.Clauses.{as_pair}
use Rattle.base.proofs.Clauses.{value_and_out}
use Rattle.copying.proofs.print_copy.Goals as goal

pub returns-then-n-gt-LONGEST : goal.returns-then-n-gt-LONGEST
returns-then-n-gt-LONGEST c =
    value_and_out
    (long_printed (take c.args.n c.args.input.now) c.args.out.now (first_long c.args.input.now c.args.n (omega arith) (omega (arith, c.if-n-gt-LONGEST.true))) (as_pair c.write_refusal.ensures))

pub slice_bounds-print_text-end : goal.slice_bounds-print_text-end
slice_bounds-print_text-end c = first_short c.args.input.now c.args.n (omega arith) (omega (arith, c.if-n-gt-LONGEST.false))

pub print_text-requires : goal.print_text-requires
print_text-requires c = (first_most c.args.input.now c.args.n (omega arith), refl, omega arith)

pub returns : goal.returns
returns c =
    let n = first_short c.args.input.now c.args.n (omega arith) (omega (arith, c.if-n-gt-LONGEST.false)) in
    value_and_out
    (short_printed (take c.args.n c.args.input.now) c.args.out.now (omega (arith, n, c.if-n-gt-LONGEST.false)) (as_pair c.print_text.ensures))
