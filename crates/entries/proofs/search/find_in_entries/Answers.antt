-- `find_in_entries` meets its contract: what the pass over the list leaves is answered.
use Rattle.std.proofs.Common.{◌≡◌, ◌∙◌, ap, refl, sym, subst, arith, add-one}
use Rattle.scl.specs.Table.{item_table}
use Rattle.entries.specs.Scans.{Ready, scanned, scan_places, answer_of}
use Rattle.entries.specs.declared.search.Scan.{Scan}
use Rattle.entries.proofs.Answers.{steps_in, ready, answers}
use Rattle.entries.proofs.search.find_in_entries.Goals as goal
use Rattle.entries.proofs.search.find_in_entries.Goals.{After-loop-i}

-- what the pass over all entries leaves
passed : (c : After-loop-i) → scanned c.start-s.result c.args.list.now (scan_places c.start-s.result) ≡ c.loop-i.s
passed c =
    let end : scan_places c.start-s.result ≡ c.loop-i.i = omega (arith, c.places_of-n.ensures, c.loop-i.invariant.0, c.loop-i-test.false) in
    rw end (sym c.loop-i.invariant.1)

pub loop-i-init : goal.loop-i-init
loop-i-init c = (omega arith, refl)

pub bounds-list-i : goal.bounds-list-i
bounds-list-i c =
    omega (arith, c.places_of-n.ensures, steps_in c.args.scl.count c.args.items.now c.args.list.now c.args.target.0 c.start-s.result c.start-s.ensures)

pub loop-i-preserved : goal.loop-i-preserved
loop-i-preserved c = (omega arith, rw (add-one, c.step-s.ensures, c.loop-i.invariant.1) refl)

pub finish-requires : goal.finish-requires
finish-requires c =
    subst (λ (s : Scan). Ready s) (passed c)
    (ready c.args.scl.count c.args.items.now c.args.list.now c.args.target.0 c.start-s.result c.start-s.ensures)

pub returns : goal.returns
returns c =
    c.finish.ensures
    ∙ ap (λ (s : Scan). answer_of s c.args.sorted) (sym (passed (goal.at.returns c).After-loop-i))
    ∙ answers c.args.scl.count c.args.items.now c.args.list.now c.args.target.0 c.start-s.result c.start-s.ensures c.args.sorted
