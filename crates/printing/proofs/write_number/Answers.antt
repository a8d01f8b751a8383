-- `write_number` meets its contract: nothing where the text is longer than the room, else its parts.
-- The length that is compared is that of the text.
use mathlib.Core.Path.{◌≡◌, sym, ap, ◌∙◌}
use mathlib.Core.List.{List}
use Prim.Native.Nat.{ℕ, ◌+◌, ◌≤◌}
use native.Mathlib.Omega.{arith}
use lib.ListN.{length}
use lib.Seq.{sets}
use Rattle.printing.specs.PrintText.{parts_text, width_of}
use Rattle.printing.proofs.Texts.{width_le, parts_length, no_room, with_room}
use borrow.Author.Rules.{rules}
use Rattle.base.proofs.Clauses.{value_and_out}
use Rattle.printing.proofs.write_number.Goals as goal
use Rattle.printing.proofs.write_number.Goals.{After-length_of-total, After-width-k}

narrow : (c : After-width-k) → c.width-k.result ≤ 19
narrow c = omega (arith, c.width-k.ensures, width_le 18 c.args.whole)

total_is : (c : After-length_of-total) → c.length_of-total.result ≡ length (parts_text c.args.negative c.args.plus c.args.whole (width_of 18 c.args.whole) c.args.part c.args.d)
total_is c =
    c.length_of-total.ensures
    ∙ sym (parts_length c.args.negative c.args.plus c.args.whole c.width-k.result c.args.part c.args.d)
    ∙ ap (λ (k : ℕ). length (parts_text c.args.negative c.args.plus c.args.whole k c.args.part c.args.d)) c.width-k.ensures

pub length_of-total-requires : goal.length_of-total-requires
length_of-total-requires c = (narrow c, c.requires.1)

pub returns-then-out-at : goal.returns-then-out-at
returns-then-out-at c =
    value_and_out
    (no_room c.args.out.now c.args.at (parts_text c.args.negative c.args.plus c.args.whole (width_of 18 c.args.whole) c.args.part c.args.d) (omega (arith, c.if-out-at.true)))

pub returns-then-out-at-2 : goal.returns-then-out-at-2
returns-then-out-at-2 c =
    value_and_out
    (no_room c.args.out.now c.args.at (parts_text c.args.negative c.args.plus c.args.whole (width_of 18 c.args.whole) c.args.part c.args.d) (omega (arith, total_is (goal.at.returns-then-out-at-2 c).After-length_of-total, c.if-out-at-2.true, c.if-out-at.false)))

pub write_parts-requires : goal.write_parts-requires
write_parts-requires c = (narrow (goal.at.write_parts-requires c).After-width-k, c.requires.1, omega (arith, c.length_of-total.ensures, c.if-out-at-2.false, c.if-out-at.false))

pub returns : goal.returns
returns c =
    value_and_out
    (with_room c.args.out.now c.write_parts.new.out c.args.at c.write_parts.result (parts_text c.args.negative c.args.plus c.args.whole (width_of 18 c.args.whole) c.args.part c.args.d)
    (omega (arith, total_is (goal.at.returns c).After-length_of-total, c.if-out-at-2.false, c.if-out-at.false))
    (c.write_parts.ensures.value ∙ ap (λ (n : ℕ). c.args.at + n) (sym c.length_of-total.ensures ∙ total_is (goal.at.returns c).After-length_of-total))
    (c.write_parts.ensures.out_after ∙ ap (λ (k : ℕ). sets c.args.out.now c.args.at (parts_text c.args.negative c.args.plus c.args.whole k c.args.part c.args.d)) c.width-k.ensures))
