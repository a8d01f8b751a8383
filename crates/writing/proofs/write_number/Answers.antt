-- `write_number` meets its contract: there is room for the text and the byte after it, so the place after the text is reached.
-- Assumes nothing.
use lib.IntN.{pos}
use Rattle.printing.specs.PrintText.{whole_text}
use Rattle.writing.proofs.Lines.{end_fits, ended}
use borrow.Author.Rules.{rules}
use Rattle.base.proofs.Clauses.{value_and_out}
use Rattle.writing.proofs.write_number.Goals as goal

pub end_text-requires : goal.end_text-requires
end_text-requires c = end_fits c.args.out.now c.args.at (whole_text (pos c.args.n)) c.args.end c.write_u32-reached.ensures.value c.requires c.write_u32-reached.ensures.out_after

pub returns : goal.returns
returns c =
    value_and_out
    (ended c.args.out.now c.args.at (whole_text (pos c.args.n)) c.args.end c.write_u32-reached.ensures.value c.requires c.write_u32-reached.ensures.out_after c.end_text.ensures.value c.end_text.ensures.out_after)
