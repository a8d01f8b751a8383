-- `write_mapping` meets its contract: 12 and nothing written where the text is longer than the bytes, else its four runs of
-- lines, each where the last one ended.
use mathlib.Core.Path.{◌≡◌, sym, ap, ◌∙◌}
use mathlib.Core.Bool.{false}
use mathlib.Core.List.{List}
use Prim.Native.Nat.{ℕ, ◌+◌}
use native.Mathlib.Omega.{arith}
use lib.ListN.{length}
use lib.Seq.{sets}
use mir.Facts.{to_z-of_z}
use mir.Syntax.{w32}
use Rattle.printing.specs.PrintText.{text_of, whole_text}
use Rattle.printing.proofs.Texts.{chain}
use Rattle.kbm.specs.Table.{entries_of}
use Rattle.writing.specs.Lines.{line, lines_text}
use Rattle.kbm_write.specs.Export.{key_texts, entry_texts, table_text, mapping_text}
use Rattle.writing.proofs.Room.{too_long, long_enough}
use Rattle.kbm_write.proofs.Lines.{pitch_limited}
use Rattle.kbm_write.proofs.Room.{four_runs, four_length}
use borrow.Author.Rules.{rules}
use Rattle.base.proofs.Clauses.{as_pair}
use Rattle.base.proofs.Clauses.{value_and_out}
use Rattle.kbm_write.proofs.write_mapping.Goals as goal
use Rattle.kbm_write.proofs.write_mapping.Goals.{After-mapping_length-total, After-write_keys-sound, After-write_line-entries, Start}

-- how long it is, run by run
runs : (c : Start) → length (mapping_text c.args.size c.args.first c.args.last c.args.middle c.args.reference c.args.hz c.args.octave (entries_of c.args.map.now)) ≡ length (lines_text (key_texts c.args.size c.args.first c.args.last c.args.middle c.args.reference)) + (length (line (text_of 3 false c.args.hz)) + (length (line (whole_text c.args.octave)) + length (table_text c.args.map.now)))
runs c = four_length (key_texts c.args.size c.args.first c.args.last c.args.middle c.args.reference) (text_of 3 false c.args.hz) (whole_text c.args.octave) (entry_texts (entries_of c.args.map.now))

-- what was measured, and what the writers said of the numbers as the machine holds them
total : (c : After-mapping_length-total) → c.mapping_length-total.result ≡ length (mapping_text c.args.size c.args.first c.args.last c.args.middle c.args.reference c.args.hz c.args.octave (entries_of c.args.map.now))
total c =
    rw (to_z-of_z {w = w32} c.ranges.size, to_z-of_z {w = w32} c.ranges.first, to_z-of_z {w = w32} c.ranges.last, to_z-of_z {w = w32} c.ranges.middle, to_z-of_z {w = w32} c.ranges.reference, to_z-of_z {w = w32} c.ranges.octave) at c.mapping_length-total.ensures

told_keys : (c : After-write_keys-sound) → (c.write_keys-sound.result ≡ length (lines_text (key_texts c.args.size c.args.first c.args.last c.args.middle c.args.reference))) × (c.write_keys-sound.new.out ≡ sets c.args.out.now 0 (lines_text (key_texts c.args.size c.args.first c.args.last c.args.middle c.args.reference)))
told_keys c =
    rw (to_z-of_z {w = w32} c.ranges.size, to_z-of_z {w = w32} c.ranges.first, to_z-of_z {w = w32} c.ranges.last, to_z-of_z {w = w32} c.ranges.middle, to_z-of_z {w = w32} c.ranges.reference) at (as_pair c.write_keys-sound.ensures)

told_octave : (c : After-write_line-entries) → (c.write_line-entries.result ≡ c.write_decimal-formal.result + length (line (whole_text c.args.octave))) × (c.write_line-entries.new.out ≡ sets c.write_decimal-formal.new.out c.write_decimal-formal.result (line (whole_text c.args.octave)))
told_octave c =
    rw (to_z-of_z {w = w32} c.ranges.octave) at (as_pair c.write_line-entries.ensures)

pub returns-then-out-total : goal.returns-then-out-total
returns-then-out-total c =
    value_and_out
    (too_long c.args.out.now (mapping_text c.args.size c.args.first c.args.last c.args.middle c.args.reference c.args.hz c.args.octave (entries_of c.args.map.now)) (omega (arith, total (goal.at.returns-then-out-total c).After-mapping_length-total, c.if-out-total.true)))

pub write_keys-sound-requires : goal.write_keys-sound-requires
write_keys-sound-requires c = rw (to_z-of_z {w = w32} c.ranges.size, to_z-of_z {w = w32} c.ranges.first, to_z-of_z {w = w32} c.ranges.last, to_z-of_z {w = w32} c.ranges.middle, to_z-of_z {w = w32} c.ranges.reference) (omega (arith, total (goal.at.write_keys-sound-requires c).After-mapping_length-total, runs (goal.at.write_keys-sound-requires c).Start, c.if-out-total.false))

pub write_decimal-formal-requires : goal.write_decimal-formal-requires
write_decimal-formal-requires c = (pitch_limited c.args.hz c.requires.0, omega arith, omega (arith, total (goal.at.write_decimal-formal-requires c).After-mapping_length-total, runs (goal.at.write_decimal-formal-requires c).Start, (told_keys (goal.at.write_decimal-formal-requires c).After-write_keys-sound).0, c.if-out-total.false))

pub write_line-entries-requires : goal.write_line-entries-requires
write_line-entries-requires c = rw (to_z-of_z {w = w32} c.ranges.octave) (omega (arith, total (goal.at.write_line-entries-requires c).After-mapping_length-total, runs (goal.at.write_line-entries-requires c).Start, (told_keys (goal.at.write_line-entries-requires c).After-write_keys-sound).0, c.write_decimal-formal.ensures.value, c.if-out-total.false))

pub write_entries-requires : goal.write_entries-requires
write_entries-requires c = (c.requires.1, omega (arith, total (goal.at.write_entries-requires c).After-mapping_length-total, runs (goal.at.write_entries-requires c).Start, (told_keys (goal.at.write_entries-requires c).After-write_keys-sound).0, c.write_decimal-formal.ensures.value, (told_octave (goal.at.write_entries-requires c).After-write_line-entries).0, c.if-out-total.false))

pub returns : goal.returns
returns c =
    let K = lines_text (key_texts c.args.size c.args.first c.args.last c.args.middle c.args.reference) in
    let P = line (text_of 3 false c.args.hz) in
    let O = line (whole_text c.args.octave) in
    let E = table_text c.args.map.now in
    value_and_out
    (long_enough c.args.out.now c.write_entries.new.out c.write_entries.result (mapping_text c.args.size c.args.first c.args.last c.args.middle c.args.reference c.args.hz c.args.octave (entries_of c.args.map.now))
    (omega (arith, total (goal.at.returns c).After-mapping_length-total, c.if-out-total.false))
    (omega (arith, runs (goal.at.returns c).Start, (told_keys (goal.at.returns c).After-write_keys-sound).0, c.write_decimal-formal.ensures.value, (told_octave (goal.at.returns c).After-write_line-entries).0, c.write_entries.ensures.value))
    (chain c.args.out.now c.write_keys-sound.new.out c.write_decimal-formal.new.out c.write_line-entries.new.out c.write_entries.new.out
    0 c.write_keys-sound.result c.write_decimal-formal.result c.write_line-entries.result K P O E
    (told_keys (goal.at.returns c).After-write_keys-sound).1 c.write_decimal-formal.ensures.out_after (told_octave (goal.at.returns c).After-write_line-entries).1 c.write_entries.ensures.out_after
    (omega (arith, (told_keys (goal.at.returns c).After-write_keys-sound).0)) c.write_decimal-formal.ensures.value (told_octave (goal.at.returns c).After-write_line-entries).0
    ∙ ap (λ (t : List ℕ). sets c.args.out.now 0 t) (sym (four_runs (key_texts c.args.size c.args.first c.args.last c.args.middle c.args.reference) (text_of 3 false c.args.hz) (whole_text c.args.octave) (entry_texts (entries_of c.args.map.now))))))
