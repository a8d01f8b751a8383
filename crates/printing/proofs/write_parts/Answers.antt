-- `write_parts` meets its contract: four writers, each where the last one ended.
-- The lists between them make a chain.
use native.Mathlib.Omega.{arith}
use Rattle.printing.specs.PrintText.{sign_text, point_text, digits_of}
use Rattle.printing.proofs.Texts.{chain, length_digits}
use borrow.Author.Rules.{rules}
use Rattle.printing.proofs.write_parts.Goals as goal

pub returns : goal.returns
returns c =
    record {
      value = omega (arith, c.write_digits.ensures.value, c.write_point-p.ensures.value, c.write_digits-j.ensures.value, c.write_sign-i.ensures.value);
      out_after = chain c.args.out.now c.write_sign-i.new.out c.write_digits-j.new.out c.write_point-p.new.out c.write_digits.new.out
          c.args.at c.write_sign-i.result c.write_digits-j.result c.write_point-p.result
          (sign_text c.args.negative c.args.plus) (digits_of c.args.k c.args.whole) (point_text c.args.d) (digits_of c.args.d c.args.part)
          c.write_sign-i.ensures.out_after c.write_digits-j.ensures.out_after c.write_point-p.ensures.out_after c.write_digits.ensures.out_after
          c.write_sign-i.ensures.value (omega (arith, c.write_digits-j.ensures.value, length_digits c.args.k c.args.whole)) c.write_point-p.ensures.value;
    }
