-- `is_table` meets its contract: each place decides with those before it, and past the last nothing is left to decide.
use Rattle.std.proofs.Common.{◌<◌, rules, arith, pos, get_or, take, FitsSigned, w32, ◌∙◌, ap}
use lib.Seq.{get_or-take, length-take-le}
use Rattle.kbm.specs.Table.{is_entry}
use Rattle.kbm.proofs.Entries.{read_is}
use Rattle.kbm.proofs.Table.{turn, finish}
use Rattle.kbm.proofs.is_table.Goals as goal

pub loop-z-preserved : goal.loop-z-preserved
loop-z-preserved c =
    let all = length-take-le c.args.count c.args.map.now c.loop-z.invariant.room in
    let h : c.loop-z.z-index < c.args.count = omega (arith, all) in
    let fits : FitsSigned w32 (get_or (take c.args.count c.args.map.now) c.loop-z.z-index (pos 0)) = search rules in
    turn c.loop-z.invariant h
    (read_is _ fits c.is_entry-all.ensures ∙ ap is_entry (get_or-take c.args.count c.args.map.now c.loop-z.z-index (pos 0) h))

pub returns : goal.returns
returns c = finish c.loop-z.invariant (omega (arith, length-take-le c.args.count c.args.map.now c.loop-z.invariant.room))
