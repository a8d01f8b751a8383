-- `find_by_pitch` meets its contract: what refuses the search is the answer.
use Rattle.std.specs.Prelude.{◌&&◌}
use mathlib.Core.Path.{◌∙◌, ap}
use Rattle.base.specs.Said.{Said, and_then}
use Rattle.floats.specs.Ranges.{in_pitch}
use Rattle.kbm.specs.Root.{is_root}
use Rattle.finding.specs.Find.{pitch_search_of}
use Rattle.sorted.specs.Lent.{list_table, list_in}
use Rattle.scl.specs.Table.{item_table, items_in}
use Rattle.relative.specs.Scales.{is_scale}
use Rattle.searching.specs.declared.Found.{Found}
use Rattle.searching.specs.Degrees.{declared_of}
use Rattle.finding.proofs.Tested.{then_tested}
use Rattle.finding.proofs.find_by_pitch.Goals as goal

pub returns : goal.returns
returns c =
    let count = c.args.scl.count in
    let table = item_table c.args.items.now.kinds c.args.items.now.cents c.args.items.now.numers c.args.items.now.denoms in
    let list = list_table c.args.list.now.places c.args.list.now.ratios c.args.list.now.wraps in
    c.declared.ensures
    ∙ ap (λ (t : Said Found). and_then t (declared_of count)) c.found_by_pitch-found.ensures
    ∙ then_tested (is_scale count table list && (is_root c.args.root && in_pitch c.args.pitch.0))
    (pitch_search_of (items_in count table) (list_in count list) c.args.root c.args.pitch.0) (declared_of count)
