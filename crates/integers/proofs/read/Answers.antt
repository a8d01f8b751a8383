-- `read` answers the integer of what `read_signed` answered: it fits an i64, and is in its type.
-- No loop.
use mathlib.Core.Path.{◌∙◌, ap}
use Rattle.integers.specs.Integer.{value}
use Rattle.integers.proofs.Range.{told, plus_fits, plus_type, plus_value, minus_fits, negated_fits, minus_type, minus_value}
use Rattle.integers.proofs.read.Goals as goal
use Rattle.integers.proofs.read.Goals.{in-Plus, in-Minus}

pub overflow_cast-z : goal.overflow_cast-z
overflow_cast-z g c =
    let t = g.met.T.Integer in
    plus_fits _ _ _ t.some t.most (told c.args.s.now c.in_ok-n.ensures c.SIGNED.ensures c.TOP.ensures c.in-Plus.is)

pub overflow_cast-z-in-Minus : goal.overflow_cast-z-in-Minus
overflow_cast-z-in-Minus g c =
    let t = g.met.T.Integer in
    minus_fits _ _ _ t.some t.most (told c.args.s.now c.in_ok-n.ensures c.SIGNED.ensures c.TOP.ensures c.in-Minus.is)

pub overflow_sub-z : goal.overflow_sub-z
overflow_sub-z g c =
    let t = g.met.T.Integer in
    negated_fits _ _ _ t.some t.most (told c.args.s.now c.in_ok-n.ensures c.SIGNED.ensures c.TOP.ensures c.in-Minus.is)

pub from_number-requires : goal.from_number-requires
from_number-requires g c =
    let t = g.met.T.Integer in
    elim c.match-branch-2.branch [
      | in-Plus w ↦ plus_type _ _ _ t.some t.most (told c.args.s.now c.in_ok-n.ensures c.SIGNED.ensures c.TOP.ensures w.in-Plus.is) w.z-is
      | in-Minus w ↦ minus_type _ _ _ t.some t.most (told c.args.s.now c.in_ok-n.ensures c.SIGNED.ensures c.TOP.ensures w.in-Minus.is) w.z-is
    ]

pub returns : goal.returns
returns g c =
    let t = g.met.T.Integer in
    elim c.match-branch-2.branch [
      | in-Plus w ↦ ap value c.from_number.ensures ∙ plus_value _ _ _ t.some t.most (told c.args.s.now c.in_ok-n.ensures c.SIGNED.ensures c.TOP.ensures w.in-Plus.is) w.z-is
      | in-Minus w ↦ ap value c.from_number.ensures ∙ minus_value _ _ _ t.some t.most (told c.args.s.now c.in_ok-n.ensures c.SIGNED.ensures c.TOP.ensures w.in-Minus.is) w.z-is
    ]
