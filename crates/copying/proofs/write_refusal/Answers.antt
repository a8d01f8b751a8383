-- `write_refusal` meets its contract: three texts, each where the last one ended.
-- Assumes nothing.
use mathlib.Core.Path.{◌∙◌}
use native.Mathlib.Omega.{arith}
use Rattle.base.specs.Numbers.{number_of}
use Rattle.copying.specs.Copy.{refused_text}
use Rattle.writing.proofs.Lines.{number_short}
use Rattle.writing.proofs.Room.{sets_over}
use Rattle.copying.proofs.Texts.{refused_length, refused_short, refused_written}
use Rattle.copying.proofs.write_refusal.Goals as goal

pub write_number-detail_at-requires : goal.write_number-detail_at-requires
write_number-detail_at-requires c = omega (arith, c.write_word-number_at.ensures.value, number_short c.number.result 32, c.requires)

pub write_number-requires : goal.write_number-requires
write_number-requires c = omega (arith, c.write_word-number_at.ensures.value, (rw c.number.ensures at c.write_number-detail_at.ensures).value, number_short (number_of c.args.reason) 32, number_short c.args.detail 10, c.requires)

pub returns : goal.returns
returns c =
    let h = refused_length (number_of c.args.reason) c.args.detail in
    record {
      value = omega (arith, h, c.write_word-number_at.ensures.value, (rw c.number.ensures at c.write_number-detail_at.ensures).value, c.write_number.ensures.value);
      out_after = refused_written (number_of c.args.reason) c.args.detail c.args.out.now c.write_word-number_at.new.out c.write_number-detail_at.new.out c.write_number.new.out c.write_word-number_at.result c.write_number-detail_at.result
          c.write_word-number_at.ensures.out_after c.write_word-number_at.ensures.value (rw c.number.ensures at c.write_number-detail_at.ensures).out_after (rw c.number.ensures at c.write_number-detail_at.ensures).value c.write_number.ensures.out_after
          ∙ sets_over c.args.out.now (refused_text (number_of c.args.reason) c.args.detail) (omega (arith, refused_short (number_of c.args.reason) c.args.detail, c.requires));
    }
