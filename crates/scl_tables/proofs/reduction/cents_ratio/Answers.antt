-- `cents_ratio` meets its contract: usable cents are at most 32 octaves.
use lib.Dec.{lit≤}
use Rattle.scl_tables.proofs.Answered.{taken_by}
use Rattle.scl.proofs.Items.{cents_ratio, ratio_reach}
use Rattle.scl_tables.proofs.reduction.cents_ratio.Goals as goal

pub returns : goal.returns
returns c =
    let whole = cents_ratio c.args.cents c.requires in
    let is = taken_by (λ ratio. ratio.0) c.from_cents.result _ c.from_cents.ensures whole.is c.unwrap_or.ensures in
    (is, ratio_reach (lit≤ tt) whole is)
