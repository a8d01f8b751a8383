-- `read_within` answers what a line says: not UTF-8, or what its rest says after the white space at its start.
-- No loop.
use native.Mathlib.Omega.{arith}
use Rattle.text.specs.Part.{part}
use Rattle.text.specs.ReadLine.{strictly}
use Rattle.text.proofs.LineReads.{ahead_le, part_length, rest_within, line_empty, line_not, line_is}
use Rattle.text.proofs.line.read_within.Goals as goal

pub returns-then-end-start : goal.returns-then-end-start
returns-then-end-start c = line_empty c.args.text.now c.args.start c.args.end c.if-end-start.true

-- the white space at the start is within the line
pub slice_bounds-read_rest-count : goal.slice_bounds-read_rest-count
slice_bounds-read_rest-count c = ahead_le strictly _ c.trim_start-n.ensures

pub slice_bounds-read_rest-start : goal.slice_bounds-read_rest-start
slice_bounds-read_rest-start c = ahead_le strictly _ c.trim_start-n.ensures

pub overflow_add-start : goal.overflow_add-start
overflow_add-start c = omega (arith, c.requires, ahead_le strictly _ c.trim_start-n.ensures, part_length c.args.text.now c.args.start c.args.end (omega arith) c.requires)

pub read_rest-requires : goal.read_rest-requires
read_rest-requires c = omega (arith, rest_within c.args.text.now c.args.start c.args.end c.trim_start-n.result (omega arith) c.requires (ahead_le strictly _ c.trim_start-n.ensures))

pub returns : goal.returns
returns c =
    line_is strictly c.args.start (part c.args.text.now c.args.start c.args.end) c.is_utf8.ensures c.if-not-is_utf8.false
    c.trim_start-n.ensures c.read_rest.ensures

pub returns-then-not-is_utf8 : goal.returns-then-not-is_utf8
returns-then-not-is_utf8 c = line_not strictly c.args.start (part c.args.text.now c.args.start c.args.end) c.is_utf8.ensures c.if-not-is_utf8.true
