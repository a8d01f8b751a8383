-- `ratio_of_octaves` meets its contract: E does not refuse what is in its range, nor leaves its own.
use lib.Ieee.{binary64, fits}
use mathlib.Core.Path.{◌≡◌}
use mathlib.Core.Bool.{true}
use Rattle.scl_tables.proofs.Answered.{taken_by}
use Rattle.scl.proofs.Items.{powers_ratio}
use borrow.Author.Rules.{rules}
use Rattle.scl_tables.proofs.reduction.ratio_of_octaves.Goals as goal

pub returns : goal.returns
returns c =
    let f : fits binary64 c.args.octaves ≡ true = search rules in
    taken_by (λ ratio. ratio.0) c.from_octaves.result _ c.from_octaves.ensures (powers_ratio c.args.octaves f c.requires).is c.unwrap_or.ensures
