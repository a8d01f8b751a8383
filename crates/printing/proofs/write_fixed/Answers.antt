-- `write_fixed` meets its contract: x taken apart, its digits cut at 10^d, and written.
-- What is cut is the number nearest to x's exact value, at most 2^53 of 10^d.
use mathlib.Core.Path.{ap, ◌∙◌}
use mathlib.Core.List.{List}
use Prim.Native.Nat.{ℕ}
use Rattle.printing.specs.PrintText.{placed, written}
use Rattle.printing.proofs.Exact.{limited_finite, exponent_le, cut_small, cut_text}
use borrow.Author.Rules.{rules}
use Rattle.printing.proofs.write_fixed.Goals as goal

pub unpack-u-requires : goal.unpack-u-requires
unpack-u-requires c = limited_finite c.args.x c.requires.0

pub fixed_of-f-requires : goal.fixed_of-f-requires
fixed_of-f-requires c = (c.unpack-u.ensures.small, exponent_le c.args.x c.unpack-u.result.negative c.unpack-u.result.digits c.unpack-u.result.exponent c.well_formed.0.1 c.requires.0 c.unpack-u.ensures, c.requires.1)

pub write_number-requires : goal.write_number-requires
write_number-requires c = (cut_small c.args.x c.unpack-u.result.negative c.args.d c.unpack-u.result.digits c.unpack-u.result.exponent c.well_formed.0.1 c.requires.0 c.unpack-u.ensures c.fixed_of-f.ensures, c.requires.1)

pub returns : goal.returns
returns c =
    let t = cut_text c.args.x c.unpack-u.result.negative c.args.d c.unpack-u.result.digits c.unpack-u.result.exponent c.well_formed.0.1 c.requires.0 c.unpack-u.ensures c.fixed_of-f.ensures c.args.plus in
    record {
      value = c.write_number.ensures.value ∙ ap (λ (x : List ℕ). placed c.args.out.now c.args.at x) t;
      out_after = c.write_number.ensures.out_after ∙ ap (λ (x : List ℕ). written c.args.out.now c.args.at x) t;
    }
