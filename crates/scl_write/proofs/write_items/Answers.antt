-- `write_items` meets its contract. The invariant: with the lines that are left written too, from `next` on, the bytes are as
-- promised.
use mathlib.Core.Path.{◌≡◌, refl, sym, ap, ◌∙◌}
use mathlib.Core.List.{List}
use Prim.Native.Nat.{ℕ, ◌+◌}
use native.Mathlib.Omega.{arith}
use lib.ListN.{length}
use lib.Seq.{sets, length-sets}
use Rattle.writing.specs.Lines.{line}
use Rattle.scl_write.specs.Export.{standing, item_text}
use Rattle.scl_write.proofs.ItemLines.{left_length, left_sets, left_end}
use Rattle.base.proofs.Clauses.{as_pair}
use Rattle.scl_write.proofs.write_items.Goals as goal
use Rattle.scl_write.proofs.write_items.Goals.{After-write_item-next}

-- what was written is the line of the item at `i`
wrote : (c : After-write_item-next) → (c.write_item-next.result ≡ c.loop-before.next + length (line (item_text (standing c.args.items.now (c.loop-before.before + 1)))))
    × (c.write_item-next.new.out ≡ sets c.loop-before.out c.loop-before.next (line (item_text (standing c.args.items.now (c.loop-before.before + 1)))))
wrote c = rw c.item_at.ensures.0 at (as_pair c.write_item-next.ensures)

pub loop-before-init : goal.loop-before-init
loop-before-init c = (omega arith, refl, refl, refl)

pub item_at-requires : goal.item_at-requires
item_at-requires c = (c.requires.0, (omega arith))

pub write_item-next-requires : goal.write_item-next-requires
write_item-next-requires c = (c.item_at.ensures.1, rw c.item_at.ensures.0 (omega (arith, left_length c.args.count c.args.items.now c.requires.0 (c.loop-before.before + 1) (omega arith), c.requires.1)))

pub loop-before-preserved : goal.loop-before-preserved
loop-before-preserved c =
    let h = wrote (goal.at.loop-before-preserved c).After-write_item-next in (
      omega arith,
      rw h.1 (length-sets c.loop-before.out c.loop-before.next (line (item_text (standing c.args.items.now (c.loop-before.before + 1)))) ∙ c.loop-before.invariant.1),
      omega (arith, h.0, left_length c.args.count c.args.items.now c.requires.0 (c.loop-before.before + 1) (omega arith)),
      left_sets c.args.count c.args.items.now c.requires.0 (c.loop-before.before + 1) (omega arith) c.loop-before.out c.write_item-next.new.out c.loop-before.next c.write_item-next.result h.1 h.0 ∙ c.loop-before.invariant.3,
    )

pub shape_of-out : goal.shape_of-out
shape_of-out c = c.loop-before.invariant.1

pub returns : goal.returns
returns c =
    let e = left_end c.args.count c.args.items.now c.requires.0 (c.loop-before.before + 1) (omega arith) in
    record {
      value = omega (arith, ap length e);
      out_after = sym (ap (λ (t : List ℕ). sets c.loop-before.out c.loop-before.next t) e) ∙ c.loop-before.invariant.3;
    }
