-- `mapping_length` meets its contract: the lengths of the keys' lines, of the pitch's, of the octave's and of the entries'.
-- Assumes nothing.
use mathlib.Core.Bool.{false}
use native.Mathlib.Omega.{arith}
use mir.Facts.{to_z-of_z}
use mir.Syntax.{w32}
use Rattle.printing.specs.PrintText.{text_of, whole_text}
use Rattle.kbm.specs.Table.{entries_of}
use Rattle.kbm_write.specs.Export.{key_texts, entry_texts}
use Rattle.kbm_write.proofs.Lines.{pitch_limited}
use Rattle.kbm_write.proofs.Room.{four_length}
use borrow.Author.Rules.{rules}
use Rattle.kbm_write.proofs.mapping_length.Goals as goal

pub decimal_length-requires : goal.decimal_length-requires
decimal_length-requires c = (pitch_limited c.args.hz c.requires.0, omega arith)

pub returns : goal.returns
returns c =
    let k = rw (to_z-of_z {w = w32} c.ranges.size, to_z-of_z {w = w32} c.ranges.first, to_z-of_z {w = w32} c.ranges.last, to_z-of_z {w = w32} c.ranges.middle, to_z-of_z {w = w32} c.ranges.reference) at c.keys_length-keys.ensures.0 in
    let o = rw (to_z-of_z {w = w32} c.ranges.octave) at c.line_length.ensures.0 in
    omega (
      arith,
      k,
      c.decimal_length.ensures.0,
      o,
      c.entries_length.ensures.0,
      four_length (key_texts c.args.size c.args.first c.args.last c.args.middle c.args.reference) (text_of 3 false c.args.hz) (whole_text c.args.octave) (entry_texts (entries_of c.args.map.now)),
    )
