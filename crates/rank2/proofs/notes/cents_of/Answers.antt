-- `cents_of` meets its contract: as_cents, which is never refused.
use Rattle.std.specs.Prelude.{◌≡◌, true}
use Rattle.base.specs.Said.{gives, outcome}
use Rattle.pitch.specs.Ratios.{as_cents}
use Rattle.scl.specs.Items.{is_usable_cents}
use Rattle.rank2.proofs.Given.{cents_given, cents_never}
use Rattle.rank2.proofs.Taken.{taken_either}
use Rattle.rank2.proofs.notes.cents_of.Goals as goal

pub returns : goal.returns
returns c =
    taken_either outcome (λ v. (gives v ≡ as_cents c.args.ratio) × (is_usable_cents v ≡ true)) c.as_cents.result _ c.as_cents.ensures c.unwrap_or.ensures
    (λ v h. cents_given c.args.ratio c.well_formed.0.1 c.requires h)
    (λ why h. cents_never c.args.ratio c.well_formed.0.1 c.requires h)
