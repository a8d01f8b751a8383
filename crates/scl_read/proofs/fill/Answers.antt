-- `fill` writes place 0 and the items that the text gives. The invariant: of what the lines say a part is left, and the items of what
-- came before it stand in the columns.
use mathlib.Core.Path.{sym, ◌∙◌}
use native.Mathlib.Omega.{arith}
use Rattle.scl.proofs.Table.{roomy}
use Rattle.scl.specs.Table.{item_table, implicit}
use Rattle.text.proofs.Shown.{LineTurn, line_turn, said_end}
use Rattle.text.specs.ReadLine.{strictly, shown}
use Rattle.scl_read.proofs.Fills.{SameLengths, same_lengths, lengths_same, lengths_roomy, written_start, filled_none, filled_end, filled_nothing, filled_required, item_place, filled_item, required_some}
use Rattle.scl_read.proofs.fill.Goals as goal
use Rattle.scl_read.proofs.fill.Goals.{After-loop-at, After-read_line-says}

pub write_item-requires : goal.write_item-requires
write_item-requires c = (omega (arith, c.requires.0), omega (arith, c.requires.1), omega (arith, c.requires.2), omega (arith, c.requires.3))

pub loop-at-init : goal.loop-at-init
loop-at-init c =
    let t = item_table c.args.kind.now c.args.cents.now c.args.numer.now c.args.denom.now in
    (omega arith, lengths_same _, lengths_roomy (same_lengths t 0 implicit c.write_item.ensures (lengths_same t)) (roomy _ t c.requires), filled_none _ _)

-- the line that a turn reads, and what is left after it
the_turn : (c : After-read_line-says) →
    LineTurn strictly c.args.text.now c.loop-at.at c.next_line-ends.result c.read_line-says.result
the_turn c = line_turn strictly _ _ c.loop-at-test.true c.next_line-ends.ensures c.read_line-says.ensures

pub found_in-requires : goal.found_in-requires
found_in-requires c = (the_turn (goal.at.found_in-requires c).After-read_line-says).parts

pub overflow_sub-required : goal.overflow_sub-required
overflow_sub-required c = required_some _ (shown c.args.text.now c.read_line-says.result) (sym c.in-Required.is ∙ c.found_in.ensures)

pub write_item-requires-in-Is : goal.write_item-requires-in-Is
write_item-requires-in-Is c = item_place _ _ c.loop-at.invariant.3 (the_turn (goal.at.write_item-requires-in-Is c).After-read_line-says).first c.found_in.ensures c.in-Is.is c.loop-at.invariant.1 c.loop-at.invariant.2

pub overflow_add-n : goal.overflow_add-n
overflow_add-n c =
    let p = item_place _ _ c.loop-at.invariant.3 (the_turn (goal.at.overflow_add-n c).After-read_line-says).first c.found_in.ensures c.in-Is.is c.loop-at.invariant.1 c.loop-at.invariant.2 in
    let t = item_table c.args.kind.now c.args.cents.now c.args.numer.now c.args.denom.now in
    let o = same_lengths t 0 implicit c.write_item.ensures (lengths_same t) in
    omega (arith, p.0, c.loop-at.invariant.1.kinds, o.kinds, c.well_formed)

pub loop-at-smaller-in-Nothing : goal.loop-at-smaller-in-Nothing
loop-at-smaller-in-Nothing c = let t = the_turn (goal.at.loop-at-smaller-in-Nothing c).After-read_line-says in omega (arith, t.moves, t.stays)

pub loop-at-preserved-in-Nothing : goal.loop-at-preserved-in-Nothing
loop-at-preserved-in-Nothing c =
    let t = the_turn (goal.at.loop-at-preserved-in-Nothing c).After-read_line-says in
    (t.stays, c.loop-at.invariant.1, c.loop-at.invariant.2, filled_nothing _ _ c.loop-at.invariant.3 t.first c.found_in.ensures c.in-Nothing.is)

pub loop-at-smaller-in-Required : goal.loop-at-smaller-in-Required
loop-at-smaller-in-Required c = let t = the_turn (goal.at.loop-at-smaller-in-Required c).After-read_line-says in omega (arith, t.moves, t.stays)

pub loop-at-preserved-in-Required : goal.loop-at-preserved-in-Required
loop-at-preserved-in-Required c =
    let t = the_turn (goal.at.loop-at-preserved-in-Required c).After-read_line-says in
    (t.stays, c.loop-at.invariant.1, c.loop-at.invariant.2, filled_required _ _ c.loop-at.invariant.3 t.first c.found_in.ensures c.in-Required.is)

pub loop-at-smaller : goal.loop-at-smaller
loop-at-smaller c = let t = the_turn (goal.at.loop-at-smaller c).After-read_line-says in omega (arith, t.moves, t.stays)

pub loop-at-preserved : goal.loop-at-preserved
loop-at-preserved c =
    let t = the_turn (goal.at.loop-at-preserved c).After-read_line-says in
    (t.stays, same_lengths (item_table c.loop-at.kind c.loop-at.cents c.loop-at.numer c.loop-at.denom) c.loop-at.n c.in-Is.item c.write_item-in-Is.ensures c.loop-at.invariant.1, c.loop-at.invariant.2, filled_item _ _ c.loop-at.invariant.3 t.first c.found_in.ensures c.in-Is.is c.write_item-in-Is.ensures)

-- the columns keep their lengths
kept : (c : After-loop-at) → SameLengths (item_table c.loop-at.kind c.loop-at.cents c.loop-at.numer c.loop-at.denom) (item_table c.args.kind.now c.args.cents.now c.args.numer.now c.args.denom.now)
kept c =
    let t = item_table c.args.kind.now c.args.cents.now c.args.numer.now c.args.denom.now in
    let o = same_lengths t 0 implicit c.write_item.ensures (lengths_same t) in
    record { kinds = c.loop-at.invariant.1.kinds ∙ o.kinds; cents = c.loop-at.invariant.1.cents ∙ o.cents; numers = c.loop-at.invariant.1.numers ∙ o.numers; denoms = c.loop-at.invariant.1.denoms ∙ o.denoms }

pub shape_of-kind : goal.shape_of-kind
shape_of-kind c = (kept c).kinds

pub shape_of-cents : goal.shape_of-cents
shape_of-cents c = (kept c).cents

pub shape_of-numer : goal.shape_of-numer
shape_of-numer c = (kept c).numers

pub shape_of-denom : goal.shape_of-denom
shape_of-denom c = (kept c).denoms

pub returns : goal.returns
returns c = filled_end _ _ c.loop-at.invariant.3 (said_end _ _ c.loop-at-test.false) ∙ written_start (item_table c.args.kind.now c.args.cents.now c.args.numer.now c.args.denom.now) _ c.write_item.ensures
