-- `fill` meets its contract. The invariant: the first i places hold the entries of the first i items.
-- The measure is the number of places left. Assumes nothing.
use mathlib.Core.Path.{◌≡◌, refl, sym, ◌∙◌, ap, subst}
use Prim.Native.Nat.{◌<◌}
use borrow.Author.Rules.{rules}
use native.Mathlib.Omega.{arith}
use lib.ListN.{length, length-set}
use mir.Facts.{to_z-of_z}
use mir.Syntax.{w32}
use mathlib.Core.Bool.{true}
use Rattle.scl_tables.specs.Build.{reduced_entry}
use Rattle.scl.specs.declared.Item.{Item}
use Rattle.scl.specs.Items.{is_usable}
use Rattle.scl.specs.Table.{items_of}
use Rattle.scl_tables.proofs.Filling.{fill_starts, fill_turn, fill_ends}
use Rattle.scl.proofs.Table.{length_items, item_at_law, usable_at}
use Rattle.scl_tables.proofs.fill.Goals as goal

pub loop-i-init : goal.loop-i-init
loop-i-init c =
    let n = length_items c.args.items.now.kinds c.args.items.now.cents c.args.items.now.numers c.args.items.now.denoms c.requires.0 c.requires.1 c.requires.2 in
    (refl, refl, fill_starts c.args.period.ratio (items_of c.args.items.now.kinds c.args.items.now.cents c.args.items.now.numers c.args.items.now.denoms) c.args.ratio.now c.args.wraps.now (c.requires.3 ∙ sym n) (c.requires.4 ∙ sym n))

pub reduced_at-reduced-requires : goal.reduced_at-reduced-requires
reduced_at-reduced-requires c =
    let n = length_items c.args.items.now.kinds c.args.items.now.cents c.args.items.now.numers c.args.items.now.denoms c.requires.0 c.requires.1 c.requires.2 in
    let l : c.loop-i.i < length c.args.items.now.kinds = omega (arith, c.loop-i-test.true, c.loop-i.invariant.0, c.requires.3) in
    (l, c.requires.0, c.requires.1, c.requires.2, subst (λ (x : Item). is_usable x ≡ true) (item_at_law c.args.items.now.kinds c.args.items.now.cents c.args.items.now.numers c.args.items.now.denoms c.loop-i.i c.requires.0 c.requires.1 c.requires.2 l) (usable_at (items_of c.args.items.now.kinds c.args.items.now.cents c.args.items.now.numers c.args.items.now.denoms) c.loop-i.i c.requires.5 (omega (arith, l, n))), c.requires.6)

pub loop-i-preserved : goal.loop-i-preserved
loop-i-preserved c =
    let n = length_items c.args.items.now.kinds c.args.items.now.cents c.args.items.now.numers c.args.items.now.denoms c.requires.0 c.requires.1 c.requires.2 in
    let l : c.loop-i.i < length c.args.items.now.kinds = omega (arith, c.loop-i-test.true, c.loop-i.invariant.0, c.requires.3) in
    rw (to_z-of_z {w = w32} {z = c.reduced_at-reduced.result.wraps} (search rules)) (
      length-set c.loop-i.ratio c.loop-i.i c.reduced_at-reduced.result.ratio ∙ c.loop-i.invariant.0,
      length-set c.loop-i.wraps c.loop-i.i c.reduced_at-reduced.result.wraps ∙ c.loop-i.invariant.1,
      fill_turn c.loop-i.invariant.2 c.reduced_at-reduced.result.ratio c.reduced_at-reduced.result.wraps (omega (arith, l, n))
          (c.reduced_at-reduced.ensures.0 ∙ ap (reduced_entry c.args.period.ratio c.loop-i.i) (sym (item_at_law c.args.items.now.kinds c.args.items.now.cents c.args.items.now.numers c.args.items.now.denoms c.loop-i.i c.requires.0 c.requires.1 c.requires.2 l)))
          c.reduced_at-reduced.ensures.1,
    )

pub returns : goal.returns
returns c =
    let n = length_items c.args.items.now.kinds c.args.items.now.cents c.args.items.now.numers c.args.items.now.denoms c.requires.0 c.requires.1 c.requires.2 in
    fill_ends c.loop-i.invariant.2 (omega (arith, n, c.loop-i-test.false, c.loop-i.invariant.0, c.requires.3))
