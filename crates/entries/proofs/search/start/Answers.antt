-- `start` meets its contract: the ratio itself without items, else what the search aims at.
-- Assumes nothing.
use mathlib.Core.Path.{◌∙◌, refl, sym}
use mathlib.Core.Bool.{true, false, ◌&&◌}
use native.Mathlib.Omega.{arith}
use lib.Dec.{ltb}
use lib.IntN.{pos}
use Rattle.floats.specs.Ranges.{in_search}
use Rattle.sorting.proofs.Order.{clash}
use Rattle.scl.specs.Table.{is_items, item_table}
use Rattle.scl.proofs.Table.{both}
use Rattle.searching.proofs.Within.{search_reach}
use Rattle.entries.proofs.Opened.{starts}
use Rattle.entries.proofs.search.start.Goals as goal

pub returns-then-count-eq0 : goal.returns-then-count-eq0
returns-then-count-eq0 c = starts true (record { beyond = false; periods = pos 0; target = c.args.target.0 }) c.begun.ensures (sym c.if-is_aimable.true ∙ c.is_aimable.ensures) (λ _. refl) (λ _ l. absurd (omega (arith, l, c.if-count-eq0.true)))

pub aim_of-requires : goal.aim_of-requires
aim_of-requires c =
    let t = sym c.is_aimable.ensures ∙ c.if-is_aimable.true in
    let h = both (is_items c.args.scl.count c.args.items.now && in_search c.args.target.0) (ltb c.args.scl.count c.args.places) t in
    let k = both (is_items c.args.scl.count c.args.items.now) (in_search c.args.target.0) h.0 in
    (k.0, (omega (arith, c.if-count-eq0.false)), search_reach c.args.target.0 k.1)

pub returns-then-is_aimable : goal.returns-then-is_aimable
returns-then-is_aimable c = starts true c.aim_of.result c.begun-then-is_aimable.ensures (sym c.if-is_aimable.true ∙ c.is_aimable.ensures) (λ z. absurd (c.if-count-eq0.false z)) (λ _ _. c.aim_of.ensures)

pub returns : goal.returns
returns c = starts false (record { beyond = false; periods = pos 0; target = c.args.target.0 }) c.begun-2.ensures (sym c.if-is_aimable.false ∙ c.is_aimable.ensures) (λ _. refl) (λ p. clash p refl)
