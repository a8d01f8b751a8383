-- `store_list` meets its contract: entries stored place by place are the columns' first.
use Rattle.std.proofs.Common.{ℕ, ◌≡◌, ◌∙◌, ap, refl, arith, add-one}
use Rattle.entries.specs.Entries.{as_entries, filled, sorted_entry_at}
use Rattle.entries.proofs.Stored.{filled_is}
use Rattle.entries.proofs.store_list.Goals as goal

pub loop-i-init : goal.loop-i-init
loop-i-init c = (omega arith, refl)

pub loop-i-preserved : goal.loop-i-preserved
loop-i-preserved c = (omega arith, rw (add-one, c.loop-i.invariant.1, c.entry_of.ensures) refl)

pub returns : goal.returns
returns c =
    let end : c.loop-i.i ≡ c.args.n = omega (arith, c.loop-i.invariant.0, c.loop-i-test.false) in
    ap as_entries (c.loop-i.invariant.1 ∙ ap (λ (i : ℕ). filled (sorted_entry_at c.args.place.now c.args.ratio.now c.args.wraps.now) i c.args.list.now) end)
    ∙ filled_is c.args.n c.args.place.now c.args.ratio.now c.args.wraps.now c.args.list.now c.requires.0 c.requires.1 c.requires.2 c.requires.3
