-- `finish` meets its contract: the tests after the last line, in document 01's order.
-- No loop: one law for each end.
use mathlib.Core.Path.{◌∙◌, ap}
use Rattle.base.specs.Said.{gives}
use Rattle.kbm_read.proofs.Finishes.{finish_missing, finish_room, finish_large, finish_count, finish_is}
use Rattle.kbm_read.proofs.finish.Goals as goal

pub returns-then-missing-gt0 : goal.returns-then-missing-gt0
returns-then-missing-gt0 c = finish_missing _ _ c.which_of-missing.ensures c.if-missing-gt0.true

pub returns-then-room-size : goal.returns-then-room-size
returns-then-room-size c = finish_room _ _ c.which_of-missing.ensures c.if-missing-gt0.false c.if-room-size.true

pub returns-then-count-gt-MOST : goal.returns-then-count-gt-MOST
returns-then-count-gt-MOST c = finish_large _ _ c.which_of-missing.ensures c.if-missing-gt0.false c.if-room-size.false c.if-count-gt-MOST.true

pub returns-then-size-count : goal.returns-then-size-count
returns-then-size-count c = finish_count _ _ c.which_of-missing.ensures c.if-missing-gt0.false c.if-room-size.false c.if-count-gt-MOST.false c.if-size-count.true

pub returns : goal.returns
returns c = ap gives c.mapping_of.ensures ∙ finish_is _ _ c.which_of-missing.ensures c.if-missing-gt0.false c.if-room-size.false c.if-count-gt-MOST.false c.if-size-count.false
