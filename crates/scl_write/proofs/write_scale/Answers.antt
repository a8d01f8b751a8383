-- `write_scale` meets its contract: 12 and nothing written where the text is longer than the bytes, else its three runs of lines,
-- each where the last one ended.
use mathlib.Core.Path.{◌≡◌}
use Prim.Native.Nat.{◌+◌, ◌^◌, ◌<◌}
use native.Mathlib.Omega.{arith}
use lib.IntN.{pos}
use lib.ListN.{length}
use lib.Seq.{sets}
use mir.Facts.{to_z_pos}
use mir.Syntax.{w32}
use Rattle.printing.specs.PrintText.{whole_text}
use Rattle.writing.specs.Lines.{line, lines_text}
use Rattle.writing.proofs.Lines.{length_line}
use Rattle.writing.proofs.Room.{too_long, long_enough}
use Rattle.scl.specs.Table.{item_table}
use Rattle.scl_write.specs.Export.{item_texts, listed_in, scale_text}
use Rattle.scl_write.proofs.ItemLines.{length_listed}
use Rattle.scl_write.proofs.ScaleLines.{scale_length, scale_written}
use Rattle.base.proofs.Clauses.{as_pair}
use Rattle.base.proofs.Clauses.{value_and_out}
use Rattle.scl_write.proofs.write_scale.Goals as goal
use Rattle.scl_write.proofs.write_scale.Goals.{After-line_length, After-write_line-items_at, Start}

-- how long it is, run by run
runs : (c : Start) → length (scale_text c.args.description.now (listed_in c.args.count c.args.items.now)) ≡ length c.args.description.now + 1 + length (line (whole_text (pos c.args.count))) + length (lines_text (item_texts (listed_in c.args.count c.args.items.now)))
runs c = scale_length c.args.description.now (listed_in c.args.count c.args.items.now) c.args.count (length_listed c.args.count c.args.items.now c.requires.0)

-- the count is a number of 32 bits
small : (c : Start) → c.args.count < 2 ^ 31
small c = omega (arith, c.requires.1)

-- what was measured
total : (c : After-line_length) → length c.args.description.now + 1 + c.line_length.result + c.items_length-taken.result ≡ length (scale_text c.args.description.now (listed_in c.args.count c.args.items.now))
total c =
    let runs : length (scale_text c.args.description.now (listed_in c.args.count c.args.items.now)) ≡ length c.args.description.now + 1 + length (line (whole_text (pos c.args.count))) + length (lines_text (item_texts (listed_in c.args.count c.args.items.now))) = scale_length c.args.description.now (listed_in c.args.count c.args.items.now) c.args.count (length_listed c.args.count c.args.items.now c.requires.0) in
    let small : c.args.count < 2 ^ 31 = omega (arith, c.requires.1) in
    let e = rw (to_z_pos w32 {n = c.args.count} small) at c.line_length.ensures.0 in
    omega (arith, runs, e, c.items_length-taken.ensures.0)

-- what the number's line left
told_number : (c : After-write_line-items_at) → (c.write_line-items_at.result ≡ c.write_text-number_at.result + length (line (whole_text (pos c.args.count)))) × (c.write_line-items_at.new.out ≡ sets c.write_text-number_at.new.out c.write_text-number_at.result (line (whole_text (pos c.args.count))))
told_number c =
    let small : c.args.count < 2 ^ 31 = omega (arith, c.requires.1) in
    rw (to_z_pos w32 {n = c.args.count} small) at (as_pair c.write_line-items_at.ensures)

pub returns-then-out-total : goal.returns-then-out-total
returns-then-out-total c =
    value_and_out
    (too_long c.args.out.now (scale_text c.args.description.now (listed_in c.args.count c.args.items.now)) (omega (arith, total (goal.at.returns-then-out-total c).After-line_length, c.if-out-total.true)))

pub write_text-number_at-requires : goal.write_text-number_at-requires
write_text-number_at-requires c = omega (arith, total (goal.at.write_text-number_at-requires c).After-line_length, runs (goal.at.write_text-number_at-requires c).Start, length_line c.args.description.now, c.if-out-total.false)

pub write_line-items_at-requires : goal.write_line-items_at-requires
write_line-items_at-requires c = rw (to_z_pos w32 {n = c.args.count} (small (goal.at.write_line-items_at-requires c).Start)) (omega (arith, total (goal.at.write_line-items_at-requires c).After-line_length, runs (goal.at.write_line-items_at-requires c).Start, c.write_text-number_at.ensures.value, length_line c.args.description.now, c.if-out-total.false))

pub write_items-requires : goal.write_items-requires
write_items-requires c = (c.requires.0, omega (arith, total (goal.at.write_items-requires c).After-line_length, runs (goal.at.write_items-requires c).Start, c.write_text-number_at.ensures.value, (told_number (goal.at.write_items-requires c).After-write_line-items_at).0, length_line c.args.description.now, c.if-out-total.false))

pub returns : goal.returns
returns c =
    value_and_out
    (long_enough c.args.out.now c.write_items.new.out c.write_items.result (scale_text c.args.description.now (listed_in c.args.count c.args.items.now))
    (omega (arith, total (goal.at.returns c).After-line_length, c.if-out-total.false))
    (omega (arith, runs (goal.at.returns c).Start, c.write_text-number_at.ensures.value, (told_number (goal.at.returns c).After-write_line-items_at).0, c.write_items.ensures.value, length_line c.args.description.now))
    (scale_written c.args.description.now (listed_in c.args.count c.args.items.now) c.args.count (length_listed c.args.count c.args.items.now c.requires.0)
    c.args.out.now c.write_text-number_at.new.out c.write_line-items_at.new.out c.write_items.new.out c.write_text-number_at.result c.write_line-items_at.result
    c.write_text-number_at.ensures.out_after c.write_text-number_at.ensures.value (told_number (goal.at.returns c).After-write_line-items_at).1 (told_number (goal.at.returns c).After-write_line-items_at).0 c.write_items.ensures.out_after))
