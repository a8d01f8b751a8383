-- `read_rest` answers what the rest of a line says: blank, a comment, or where its trimmed part and its token end.
-- No loop.
use native.Mathlib.Omega.{arith}
use Rattle.text.specs.ReadLine.{strictly}
use Rattle.text.proofs.LineReads.{kept_le, token_kept}
use Rattle.text.proofs.line.read_rest.Goals as goal

pub overflow_add-result-2 : goal.overflow_add-result-2
overflow_add-result-2 c =
    omega (
      arith,
      c.requires,
      kept_le strictly c.args.at c.args.s.now c.trim_end-n.ensures,
      token_kept strictly c.args.at c.args.s.now c.trim_end-n.ensures c.token_end-k.ensures,
    )
