-- `degree_at` meets its contract: the distance with no entries, else the entry reached and the quotient's formal octaves.
-- Assumes nothing.
use borrow.Author.Rules.{rules}
use mathlib.Core.Path.{sym, ◌∙◌}
use Rattle.kbm.proofs.Degrees.{degree_zero, read_usable, degree_of_read, held_shifted}
use Rattle.kbm.proofs.degree_at.Goals as goal

pub returns-then-count-eq0 : goal.returns-then-count-eq0
returns-then-count-eq0 c = degree_zero c.args.count c.args.map.now c.requires c.ranges.d c.args.octave c.if-count-eq0.true

pub entry_of-requires : goal.entry_of-requires
entry_of-requires c = read_usable c.args.count c.args.map.now c.requires c.ranges.d c.if-count-eq0.false c.remainder-place.ensures (record { sfits = c.entry_of-arg-1.given })

pub returns-in-Some : goal.returns-in-Some
returns-in-Some c =
    held_shifted {entry = c.in-Some.entry} c.args.count c.ranges.d (search rules) c.ranges.octave (record { sfits = c.quotient.type_inv }) (record { sfits = c.shifted.type_inv })
    c.quotient.ensures c.shifted.ensures c.checked_degree.ensures
    ∙ sym (degree_of_read c.args.count c.args.map.now c.requires c.ranges.d c.if-count-eq0.false c.remainder-place.ensures c.args.octave (record { sfits = c.entry_of-arg-1.given }) c.entry_of.ensures c.in-Some.is)

pub returns-in-None : goal.returns-in-None
returns-in-None c = sym (degree_of_read c.args.count c.args.map.now c.requires c.ranges.d c.if-count-eq0.false c.remainder-place.ensures c.args.octave (record { sfits = c.entry_of-arg-1.given }) c.entry_of.ensures c.in-None.is)
