-- `write_i32` meets its contract: the sign and the size of z are written.
-- The text of those is the text of z.
use lib.IntN.{nat_abs, pos}
use mathlib.Core.Path.{◌≡◌, ap, ◌∙◌}
use mathlib.Core.List.{List}
use Prim.Native.Nat.{ℕ}
use native.Mathlib.Omega.{arith}
use lib.Signed.{lt_z}
use mir.Facts.{to_z-of_z}
use Rattle.printing.specs.PrintText.{integer_text, whole_text, placed, written}
use Rattle.printing.proofs.Integers.{size_small, whole_is}
use borrow.Author.Rules.{rules}
use Rattle.printing.proofs.write_i32.Goals as goal
use Rattle.printing.proofs.write_i32.Goals.{After-magnitude-m}

size_is : (c : After-magnitude-m) → c.magnitude-m.result ≡ nat_abs c.args.z
size_is c = c.magnitude-m.ensures ∙ ap nat_abs (to_z-of_z c.ranges.z)

pub write_integer-requires : goal.write_integer-requires
write_integer-requires c = omega (arith, size_is (goal.at.write_integer-requires c).After-magnitude-m, size_small c.args.z c.ranges.z)

pub returns : goal.returns
returns c =
    let t : integer_text (lt_z c.args.z (pos 0)) c.magnitude-m.result ≡ whole_text c.args.z = ap (integer_text (lt_z c.args.z (pos 0))) (size_is (goal.at.returns c).After-magnitude-m) ∙ whole_is c.args.z in
    record {
      value = rw (to_z-of_z c.ranges.z) at c.write_integer.ensures.value ∙ ap (λ (x : List ℕ). placed c.args.out.now c.args.at x) t;
      out_after = rw (to_z-of_z c.ranges.z) at c.write_integer.ensures.out_after ∙ ap (λ (x : List ℕ). written c.args.out.now c.args.at x) t;
    }
