-- `write_keys` meets its contract: five lines, each where the last one ended.
-- The lists between them make a chain.
use native.Mathlib.Omega.{arith}
use mir.Facts.{to_z-of_z}
use mir.Syntax.{w32}
use borrow.Author.Rules.{rules}
use Rattle.printing.specs.PrintText.{whole_text}
use Rattle.kbm_write.proofs.Lines.{five_length, five_written}
use Rattle.base.proofs.Clauses.{as_pair}
use Rattle.kbm_write.proofs.write_keys.Goals as goal

pub write_line-a-requires : goal.write_line-a-requires
write_line-a-requires c = rw (to_z-of_z {w = w32} c.ranges.size) (omega (arith, c.requires, five_length (whole_text c.args.size) (whole_text c.args.first) (whole_text c.args.last) (whole_text c.args.middle) (whole_text c.args.reference)))

pub write_line-b-requires : goal.write_line-b-requires
write_line-b-requires c =
    let e1 = rw (to_z-of_z {w = w32} c.ranges.size) at c.write_line-a.ensures.value in
    rw (to_z-of_z {w = w32} c.ranges.first) (omega (arith, c.requires, e1, five_length (whole_text c.args.size) (whole_text c.args.first) (whole_text c.args.last) (whole_text c.args.middle) (whole_text c.args.reference)))

pub write_line-c-requires : goal.write_line-c-requires
write_line-c-requires c =
    let e1 = rw (to_z-of_z {w = w32} c.ranges.size) at c.write_line-a.ensures.value in
    let e2 = rw (to_z-of_z {w = w32} c.ranges.first) at c.write_line-b.ensures.value in
    rw (to_z-of_z {w = w32} c.ranges.last) (omega (arith, c.requires, e1, e2, five_length (whole_text c.args.size) (whole_text c.args.first) (whole_text c.args.last) (whole_text c.args.middle) (whole_text c.args.reference)))

pub write_line-d-requires : goal.write_line-d-requires
write_line-d-requires c =
    let e1 = rw (to_z-of_z {w = w32} c.ranges.size) at c.write_line-a.ensures.value in
    let e2 = rw (to_z-of_z {w = w32} c.ranges.first) at c.write_line-b.ensures.value in
    let e3 = rw (to_z-of_z {w = w32} c.ranges.last) at c.write_line-c.ensures.value in
    rw (to_z-of_z {w = w32} c.ranges.middle) (omega (arith, c.requires, e1, e2, e3, five_length (whole_text c.args.size) (whole_text c.args.first) (whole_text c.args.last) (whole_text c.args.middle) (whole_text c.args.reference)))

pub write_line-requires : goal.write_line-requires
write_line-requires c =
    let e1 = rw (to_z-of_z {w = w32} c.ranges.size) at c.write_line-a.ensures.value in
    let e2 = rw (to_z-of_z {w = w32} c.ranges.first) at c.write_line-b.ensures.value in
    let e3 = rw (to_z-of_z {w = w32} c.ranges.last) at c.write_line-c.ensures.value in
    let e4 = rw (to_z-of_z {w = w32} c.ranges.middle) at c.write_line-d.ensures.value in
    rw (to_z-of_z {w = w32} c.ranges.reference) (omega (arith, c.requires, e1, e2, e3, e4, five_length (whole_text c.args.size) (whole_text c.args.first) (whole_text c.args.last) (whole_text c.args.middle) (whole_text c.args.reference)))

pub returns : goal.returns
returns c =
    let e1 = rw (to_z-of_z {w = w32} c.ranges.size) at (as_pair c.write_line-a.ensures) in
    let e2 = rw (to_z-of_z {w = w32} c.ranges.first) at (as_pair c.write_line-b.ensures) in
    let e3 = rw (to_z-of_z {w = w32} c.ranges.last) at (as_pair c.write_line-c.ensures) in
    let e4 = rw (to_z-of_z {w = w32} c.ranges.middle) at (as_pair c.write_line-d.ensures) in
    let e5 = rw (to_z-of_z {w = w32} c.ranges.reference) at (as_pair c.write_line.ensures) in
    record {
      value = omega (arith, e1.0, e2.0, e3.0, e4.0, e5.0, five_length (whole_text c.args.size) (whole_text c.args.first) (whole_text c.args.last) (whole_text c.args.middle) (whole_text c.args.reference));
      out_after = five_written (whole_text c.args.size) (whole_text c.args.first) (whole_text c.args.last) (whole_text c.args.middle) (whole_text c.args.reference)
          c.args.out.now c.write_line-a.new.out c.write_line-b.new.out c.write_line-c.new.out c.write_line-d.new.out c.write_line.new.out
          c.write_line-a.result c.write_line-b.result c.write_line-c.result c.write_line-d.result
          e1.1 e1.0 e2.1 e2.0 e3.1 e3.0 e4.1 e4.0 e5.1;
    }
