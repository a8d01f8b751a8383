-- `keys_length` meets its contract: the five lines' lengths, each at most 32.
-- Assumes nothing.
use native.Mathlib.Omega.{arith}
use mir.Facts.{to_z-of_z}
use mir.Syntax.{w32}
use Rattle.printing.specs.PrintText.{whole_text}
use Rattle.kbm_write.proofs.Lines.{five_length}
use borrow.Author.Rules.{rules}
use Rattle.kbm_write.proofs.keys_length.Goals as goal

pub returns : goal.returns
returns c =
    let e1 = rw (to_z-of_z {w = w32} c.ranges.size) at c.line_length.ensures.0 in
    let e2 = rw (to_z-of_z {w = w32} c.ranges.first) at c.line_length-2.ensures.0 in
    let e3 = rw (to_z-of_z {w = w32} c.ranges.last) at c.line_length-3.ensures.0 in
    let e4 = rw (to_z-of_z {w = w32} c.ranges.middle) at c.line_length-4.ensures.0 in
    let e5 = rw (to_z-of_z {w = w32} c.ranges.reference) at c.line_length-5.ensures.0 in
    (omega (arith, e1, e2, e3, e4, e5, five_length (whole_text c.args.size) (whole_text c.args.first) (whole_text c.args.last) (whole_text c.args.middle) (whole_text c.args.reference)), search rules)
