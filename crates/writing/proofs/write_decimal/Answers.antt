-- `write_decimal` meets its contract: there is room for the text and the byte after it, so the place after the text is reached.
-- Assumes nothing.
use mathlib.Core.Bool.{false}
use Rattle.printing.specs.PrintText.{text_of}
use Rattle.writing.proofs.Lines.{end_fits, ended}
use borrow.Author.Rules.{rules}
use Rattle.base.proofs.Clauses.{value_and_out}
use Rattle.writing.proofs.write_decimal.Goals as goal

pub write_fixed-reached-requires : goal.write_fixed-reached-requires
write_fixed-reached-requires c = (c.requires.0, c.requires.1)

pub end_text-requires : goal.end_text-requires
end_text-requires c = end_fits c.args.out.now c.args.at (text_of c.args.d false c.args.x) 10 c.write_fixed-reached.ensures.value c.requires.2 c.write_fixed-reached.ensures.out_after

pub returns : goal.returns
returns c =
    value_and_out
    (ended c.args.out.now c.args.at (text_of c.args.d false c.args.x) 10 c.write_fixed-reached.ensures.value c.requires.2 c.write_fixed-reached.ensures.out_after c.end_text.ensures.value c.end_text.ensures.out_after)
