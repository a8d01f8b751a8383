-- `upper_at` meets its contract: the first entry not below, from 1 to the count.
-- Assumes nothing.
use mathlib.Core.List.{List}
use native.Mathlib.Omega.{arith}
use mathlib.Core.Path.{◌∙◌, ap, sym}
use Prim.Native.Nat.{◌+◌, ℕ}
use lib.Ieee.{Float}
use lib.ListN.{take}
use Rattle.sorted.specs.Lent.{first_not_below, list_in, list_table, ratios_of}
use Rattle.sorted.proofs.Usable.{all_positive, reach_positive}
use Rattle.relative.proofs.Places.{list_room, list_count, list_ratios, ratios_part, ratios_reach, ratios_rise}
use Rattle.searching.specs.Search.{clamped}
use Rattle.searching.proofs.upper_at.Goals as goal

pub first_not_below-requires : goal.first_not_below-requires
first_not_below-requires c = (omega (arith, (list_room c.args.count c.args.list.now c.requires.0).ratios_room), all_positive (take (c.args.count + 1) c.args.list.now.ratios) (ratios_reach c.args.count c.args.list.now c.requires.0), ratios_rise c.args.count c.args.list.now c.requires.0, reach_positive c.args.target c.requires.2)

pub returns : goal.returns
returns c =
    let es = list_in c.args.count c.args.list.now in
    let place = ap (clamped c.args.count) c.first_not_below.ensures ∙ ap (λ (l : List Float). clamped c.args.count (first_not_below l c.args.target)) (list_ratios c.args.count c.args.list.now c.requires.0) in
    (c.clamp.ensures.0 ∙ place ∙ ap (λ (m : ℕ). clamped m (first_not_below (ratios_of es) c.args.target)) (sym (list_count c.args.count c.args.list.now c.requires.0)), c.clamp.ensures.1, c.clamp.ensures.2)
