-- `build_list` meets its contract: the list is built in the first places of the columns (Parts.antt).
-- Assumes nothing.
use borrow.Author.Rules.{rules}
use mathlib.Core.Path.{◌≡◌, sym, ◌∙◌, ap}
use Prim.Native.Nat.{◌+◌}
use lib.ListN.{length, take}
use Rattle.sorted.specs.Lent.{list_table}
use Rattle.scl_tables.specs.Build.{is_given}
use Rattle.scl_tables.proofs.Parts.{list_part, part_list}
use Rattle.scl_tables.proofs.build_list.Goals as goal

pub returns : goal.returns
returns c =
    let n = c.args.count + 1 in
    let built = (rw c.first.ensures at c.build_whole.ensures) in
    let lp : length c.build_whole.new.place ≡ length (take n c.args.place.now) = search rules in
    let lr : length c.build_whole.new.ratio ≡ length (take n c.args.ratio.now) = search rules in
    let lw : length c.build_whole.new.wraps ≡ length (take n c.args.wraps.now) = search rules in (
      ap is_given (sym built),
      part_list n (list_table c.args.place.now c.args.ratio.now c.args.wraps.now) c.build_whole.new.place c.build_whole.new.ratio c.build_whole.new.wraps (lp ∙ list_part c.args.count c.args.place.now c.requires.2) (lr ∙ list_part c.args.count c.args.ratio.now c.requires.3) (lw ∙ list_part c.args.count c.args.wraps.now c.requires.4) built,
    )
