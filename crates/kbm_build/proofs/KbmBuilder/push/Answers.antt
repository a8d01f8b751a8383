-- `KbmBuilder::push` meets its contract: the entry's number goes to the next place, and a refusal writes nothing.
-- Assumes nothing.
use mathlib.Core.Path.{sym}
use mir.Facts.{to_z-of_z}
use mir.Syntax.{w32}
use Rattle.kbm_build.proofs.Pushes.{push_other, push_past, push_full, push_more, after_push_law}
use Rattle.kbm_build.proofs.KbmBuilder.push.Goals as goal

pub returns-then-count-room : goal.returns-then-count-room
returns-then-count-room c =
    let is = push_more c.args.self c.args.map.now c.if-room-map.true c.if-count-room.true in
    (sym is, rw (to_z-of_z {w = w32} (record { sfits = c.number_of.type_inv }), c.number_of.ensures) (after_push_law c.args.self c.args.map.now c.args.entry is))

pub returns-then-count-room-2 : goal.returns-then-count-room-2
returns-then-count-room-2 c =
    let is = push_full c.args.self c.args.map.now c.if-room-map.true c.if-count-room-2.true in
    (sym is, after_push_law c.args.self c.args.map.now c.args.entry is)

pub returns-else-count-room-2 : goal.returns-else-count-room-2
returns-else-count-room-2 c =
    let is = push_past c.args.self c.args.map.now c.if-room-map.true c.if-count-room.false c.if-count-room-2.false in
    (sym is, after_push_law c.args.self c.args.map.now c.args.entry is)

pub returns-else-room-map : goal.returns-else-room-map
returns-else-room-map c =
    let is = push_other c.args.self c.args.map.now c.if-room-map.false in
    (sym is, after_push_law c.args.self c.args.map.now c.args.entry is)
