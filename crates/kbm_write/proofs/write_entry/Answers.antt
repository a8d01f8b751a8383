-- `write_entry` meets its contract: `x` and LF where the number is the unmapped one, else the degree's line.
-- Assumes nothing.
use mathlib.Core.Path.{◌≡◌, sym}
use mathlib.Core.Bool.{true, false}
use native.Mathlib.Omega.{arith}
use Prim.Native.Nat.{◌+◌, ◌≤◌}
use lib.ListN.{length, length-set}
use borrow.Author.Rules.{rules}
use mir.Facts.{to_z-of_z}
use mir.Syntax.{w32}
use Rattle.kbm.specs.Table.{is_unmapped}
use Rattle.kbm.proofs.Entries.{unmapped_yes, unmapped_no}
use Rattle.kbm_write.proofs.Lines.{unmapped_text, mapped_text, x_written}
use Rattle.base.proofs.Clauses.{as_pair}
use Rattle.base.proofs.Clauses.{value_and_out}
use Rattle.kbm_write.proofs.write_entry.Goals as goal
use Rattle.kbm_write.proofs.write_entry.Goals.{Else-z-eq-UNMAPPED, Then-z-eq-UNMAPPED}

taken : (c : Then-z-eq-UNMAPPED) → is_unmapped c.args.z ≡ true
taken c = unmapped_yes c.ranges.z c.if-z-eq-UNMAPPED.true

left : (c : Else-z-eq-UNMAPPED) → is_unmapped c.args.z ≡ false
left c = unmapped_no c.ranges.z c.if-z-eq-UNMAPPED.false

two : (c : Then-z-eq-UNMAPPED) → c.args.at + 2 ≤ length c.args.out.now
two c =
    let taken : is_unmapped c.args.z ≡ true = unmapped_yes c.ranges.z c.if-z-eq-UNMAPPED.true in
    rw (unmapped_text c.args.z taken) at c.requires

pub bounds-out-at : goal.bounds-out-at
bounds-out-at c = omega (arith, two c)

pub overflow_add-out : goal.overflow_add-out
overflow_add-out c = omega (arith, two c)

pub bounds-out-at-then-z-eq-UNMAPPED : goal.bounds-out-at-then-z-eq-UNMAPPED
bounds-out-at-then-z-eq-UNMAPPED c = simp length-set (omega (arith, two c))

pub overflow_add-result : goal.overflow_add-result
overflow_add-result c = omega (arith, two c)

pub returns-then-z-eq-UNMAPPED : goal.returns-then-z-eq-UNMAPPED
returns-then-z-eq-UNMAPPED c =
    value_and_out
    (x_written c.args.out.now c.args.at (unmapped_text c.args.z (taken c)))

pub write_line-requires : goal.write_line-requires
write_line-requires c = rw (to_z-of_z {w = w32} c.ranges.z, sym (mapped_text c.args.z (left (goal.at.write_line-requires c).Else-z-eq-UNMAPPED))) c.requires

pub returns : goal.returns
returns c =
    value_and_out
    (rw (mapped_text c.args.z (left (goal.at.returns c).Else-z-eq-UNMAPPED)) (rw (to_z-of_z {w = w32} c.ranges.z) at (as_pair c.write_line.ensures)))
