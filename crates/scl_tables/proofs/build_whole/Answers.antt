-- `build_whole` meets its contract: the entries, the override, the stable order and the repeat rule (Override.antt).
-- Assumes nothing.
use mathlib.Core.Path.{◌≡◌, sym, subst}
use Prim.Native.Nat.{◌<◌}
use lib.ListN.{length}
use Rattle.sorted.specs.Lent.{AllInReach}
use Rattle.sorted.proofs.Usable.{all_positive}
use Rattle.scl.specs.Table.{items_of}
use Rattle.scl_tables.proofs.Override.{after_reach, built}
use borrow.Author.Rules.{rules}
use Rattle.scl_tables.proofs.build_whole.Goals as goal

pub arrange-requires : goal.arrange-requires
arrange-requires c =
    let some : 0 < length c.fill.new.ratio = search rules in
    let lw : length c.fill.new.wraps ≡ length c.fill.new.ratio = search rules in (
      search rules,
      search rules,
      search rules,
      all_positive c.override_period.new.ratio (subst AllInReach (sym c.override_period.ensures.0) (after_reach c.period_at-period.result.ratio c.period_at-period.ensures.1.reach c.fill.new.ratio c.fill.new.wraps some lw c.fill.ensures.1)),
    )

pub returns : goal.returns
returns c =
    let some : 0 < length c.fill.new.ratio = search rules in
    let lw : length c.fill.new.wraps ≡ length c.fill.new.ratio = search rules in
    let items = items_of c.args.items.now.kinds c.args.items.now.cents c.args.items.now.numers c.args.items.now.denoms in
    let same : length c.args.place.now ≡ length c.fill.new.ratio = search rules in
    built c.period_at-period.result.ratio c.period_at-period.ensures.1.reach c.fill.new.ratio c.fill.new.wraps some lw items c.args.place.now same c.period_at-period.ensures.0 c.fill.ensures.0 c.override_period.ensures.0 c.override_period.ensures.1 c.arrange.ensures
