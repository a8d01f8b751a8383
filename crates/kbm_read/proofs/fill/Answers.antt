-- `fill` writes the entries that the text gives. The invariant: of what the lines say a part is left, and the entries of what
-- came before it stand in the table, as many as n says.
use mathlib.Core.Path.{refl}
use Prim.Native.Nat.{◌<◌}
use native.Mathlib.Omega.{arith}
use lib.ListN.{length, length-set}
use mir.Facts.{to_z-of_z}
use mir.Syntax.{w32}
use Rattle.text.proofs.Shown.{LineTurn, line_turn, said_end}
use Rattle.text.specs.ReadLine.{strictly}
use Rattle.kbm_read.proofs.Fills.{filled_none, filled_end, filled_nothing, filled_required, filled_place, filled_entry}
use Rattle.kbm_read.proofs.fill.Goals as goal
use Rattle.kbm_read.proofs.fill.Goals.{After-read_line-says, In-Is}

pub loop-at-init : goal.loop-at-init
loop-at-init c = (omega arith, refl, filled_none _ _)

-- the line that a turn reads, and what is left after it
the_turn : (c : After-read_line-says) →
    LineTurn strictly c.args.text.now c.loop-at.at c.next_line-ends.result c.read_line-says.result
the_turn c = line_turn strictly _ _ c.loop-at-test.true c.next_line-ends.ensures c.read_line-says.ensures

pub found_in-requires : goal.found_in-requires
found_in-requires c = (the_turn (goal.at.found_in-requires c).After-read_line-says).parts

-- an entry has a place
place : (c : In-Is) → c.loop-at.n < length c.args.map.now
place c =
    let the_turn : LineTurn strictly c.args.text.now c.loop-at.at c.next_line-ends.result c.read_line-says.result = line_turn strictly _ _ c.loop-at-test.true c.next_line-ends.ensures c.read_line-says.ensures in
    filled_place _ _ c.loop-at.invariant.2 the_turn.first c.found_in.ensures c.in-Is.is c.requires

pub bounds-map-n : goal.bounds-map-n
bounds-map-n c = omega (arith, place (goal.at.bounds-map-n c).In-Is, c.loop-at.invariant.1)

pub loop-at-smaller-in-Nothing : goal.loop-at-smaller-in-Nothing
loop-at-smaller-in-Nothing c = let t = the_turn (goal.at.loop-at-smaller-in-Nothing c).After-read_line-says in omega arith

pub loop-at-preserved-in-Nothing : goal.loop-at-preserved-in-Nothing
loop-at-preserved-in-Nothing c =
    let t = the_turn (goal.at.loop-at-preserved-in-Nothing c).After-read_line-says in
    (t.stays, c.loop-at.invariant.1, filled_nothing _ _ c.loop-at.invariant.2 (the_turn (goal.at.loop-at-preserved-in-Nothing c).After-read_line-says).first c.found_in.ensures c.in-Nothing.is)

pub loop-at-smaller-in-Required : goal.loop-at-smaller-in-Required
loop-at-smaller-in-Required c = let t = the_turn (goal.at.loop-at-smaller-in-Required c).After-read_line-says in omega arith

pub loop-at-preserved-in-Required : goal.loop-at-preserved-in-Required
loop-at-preserved-in-Required c =
    let t = the_turn (goal.at.loop-at-preserved-in-Required c).After-read_line-says in
    (t.stays, c.loop-at.invariant.1, filled_required _ _ c.loop-at.invariant.2 (the_turn (goal.at.loop-at-preserved-in-Required c).After-read_line-says).first c.found_in.ensures c.in-Required.is)

pub loop-at-smaller : goal.loop-at-smaller
loop-at-smaller c = let t = the_turn (goal.at.loop-at-smaller c).After-read_line-says in omega arith

pub loop-at-preserved : goal.loop-at-preserved
loop-at-preserved c =
    let t = the_turn (goal.at.loop-at-preserved c).After-read_line-says in
    (t.stays, simp length-set c.loop-at.invariant.1, rw (to_z-of_z {w = w32} (record { sfits = c.number_of.type_inv }), c.number_of.ensures) (filled_entry _ _ c.loop-at.invariant.2 (the_turn (goal.at.loop-at-preserved c).After-read_line-says).first c.found_in.ensures c.in-Is.is c.requires))

pub returns : goal.returns
returns c = filled_end _ _ c.loop-at.invariant.2 (said_end _ _ c.loop-at-test.false)
