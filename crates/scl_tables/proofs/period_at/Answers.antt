-- `period_at` meets its contract: the last item is usable.
-- Assumes nothing.
use mathlib.Core.Path.{◌≡◌, sym, ◌∙◌, ap, subst}
use mathlib.Core.Bool.{true}
use Prim.Native.Nat.{ℕ, ◌-◌, ◌<◌}
use native.Mathlib.Omega.{arith}
use lib.ListN.{length, get_or}
use Rattle.base.specs.Said.{gives}
use Rattle.scl.specs.Items.{is_usable, ratio_of}
use Rattle.scl.specs.Table.{items_of, no_item}
use Rattle.scl.specs.declared.Item.{Item}
use Rattle.scl.proofs.Table.{length_items, item_at_law, usable_at}
use Rattle.scl_tables.proofs.period_at.Goals as goal

pub ratio_of-requires : goal.ratio_of-requires
ratio_of-requires c =
    let item = (rw c.len-last.ensures at c.item-item.ensures) in
    let i = length c.args.items.now.kinds - 1 in
    let l : i < length c.args.items.now.kinds = omega (arith, c.requires.0) in
    let n = length_items c.args.items.now.kinds c.args.items.now.cents c.args.items.now.numers c.args.items.now.denoms c.requires.1 c.requires.2 c.requires.3 in
    let e = item_at_law c.args.items.now.kinds c.args.items.now.cents c.args.items.now.numers c.args.items.now.denoms i c.requires.1 c.requires.2 c.requires.3 l in
    subst (λ (x : Item). is_usable x ≡ true) (e ∙ sym item) (usable_at (items_of c.args.items.now.kinds c.args.items.now.cents c.args.items.now.numers c.args.items.now.denoms) i c.requires.4 (omega (arith, l, n)))

pub returns : goal.returns
returns c =
    let item = (rw c.len-last.ensures at c.item-item.ensures) in
    let i = length c.args.items.now.kinds - 1 in
    let l : i < length c.args.items.now.kinds = omega (arith, c.requires.0) in
    let n = length_items c.args.items.now.kinds c.args.items.now.cents c.args.items.now.numers c.args.items.now.denoms c.requires.1 c.requires.2 c.requires.3 in
    let e = item_at_law c.args.items.now.kinds c.args.items.now.cents c.args.items.now.numers c.args.items.now.denoms i c.requires.1 c.requires.2 c.requires.3 l in
    let m = ap (λ (j : ℕ). ratio_of (get_or (items_of c.args.items.now.kinds c.args.items.now.cents c.args.items.now.numers c.args.items.now.denoms) (j - 1) no_item)) n in
    (ap gives c.period_of.ensures.0 ∙ c.ratio_of.ensures.0 ∙ ap ratio_of (item ∙ sym e) ∙ sym m, c.period_of.ensures.1)
