-- `read_kbm` answers what the first pass answers, and the second leaves the entries of an accepted text in the table.
-- No loop: two passes and the padding.
use mathlib.Core.Path.{◌≡◌, sym, ◌∙◌, ap}
use lib.ListN.{length}
use Rattle.base.specs.Said.{gives, outcome}
use Rattle.kbm_read.specs.Reader.{read_of}
use Rattle.kbm_read.proofs.Leaves.{given_fits, size_fits, read_leaves}
use Rattle.kbm_read.proofs.read_kbm.Goals as goal
use Rattle.kbm_read.proofs.read_kbm.Goals.{In_ok-mapping}

-- the text was accepted
accepted : (c : In_ok-mapping) → read_of (length c.args.map.now) c.args.text.now ≡ gives c.in_ok-mapping.mapping
accepted c = sym c.check.ensures ∙ ap outcome c.in_ok-mapping.was

pub fill-n-requires : goal.fill-n-requires
fill-n-requires c = given_fits c.args.text.now c.args.map.now (accepted (goal.at.fill-n-requires c).In_ok-mapping)

pub pad-requires : goal.pad-requires
pad-requires c = rw c.from.ensures (size_fits c.args.text.now c.args.map.now (accepted (goal.at.pad-requires c).In_ok-mapping) c.fill-n.ensures.1)

pub returns : goal.returns
returns c = (sym (accepted (goal.at.returns c).In_ok-mapping), read_leaves c.args.text.now c.args.map.now (accepted (goal.at.returns c).In_ok-mapping) c.fill-n.ensures.0 c.fill-n.ensures.1 (rw c.from.ensures at c.pad.ensures))
