-- `write_line` meets its contract: there is room for the text and the byte after it, so the place after the text is reached.
-- Assumes nothing.
use mathlib.Core.Path.{◌≡◌}
use mir.Facts.{to_z-of_z}
use mir.Syntax.{w32}
use Rattle.printing.specs.PrintText.{whole_text, placed, written}
use Rattle.writing.proofs.Lines.{end_fits, ended}
use borrow.Author.Rules.{rules}
use Rattle.base.proofs.Clauses.{value_and_out}
use Rattle.writing.proofs.write_line.Goals as goal
use Rattle.writing.proofs.write_line.Goals.{After-write_i32-reached}

-- what `write_i32` said of z as the machine holds it, it said of z
told : (c : After-write_i32-reached) → (c.write_i32-reached.result ≡ placed c.args.out.now c.args.at (whole_text c.args.z)) × (c.write_i32-reached.new.out ≡ written c.args.out.now c.args.at (whole_text c.args.z))
told c =
    let said = c.write_i32-reached.ensures in
    (rw (to_z-of_z {w = w32} c.ranges.z) at said.value, rw (to_z-of_z {w = w32} c.ranges.z) at said.out_after)

pub end_text-requires : goal.end_text-requires
end_text-requires c = end_fits c.args.out.now c.args.at (whole_text c.args.z) 10 (told (goal.at.end_text-requires c).After-write_i32-reached).0 c.requires (told (goal.at.end_text-requires c).After-write_i32-reached).1

pub returns : goal.returns
returns c =
    value_and_out
    (ended c.args.out.now c.args.at (whole_text c.args.z) 10 (told (goal.at.returns c).After-write_i32-reached).0 c.requires (told (goal.at.returns c).After-write_i32-reached).1 c.end_text.ensures.value c.end_text.ensures.out_after)
