-- `note_at` meets its contract: the generation, the remainder by the period, the ratio of that, which is never refused.
use Rattle.std.specs.Prelude.{◌≡◌, true}
use mathlib.Core.Path.{◌∙◌, ap}
use native.Mathlib.Omega.{arith}
use lib.Ieee.{Float, binary64, mul}
use Rattle.base.specs.Said.{gives}
use Rattle.floats.specs.Ranges.{in_generator}
use Rattle.pitch.specs.Answers.{says_ratio}
use Rattle.pitch.specs.Ratios.{from_cents}
use Rattle.remainder.specs.Euclid.{rem_euclid}
use Rattle.rank2.specs.Notes.{note_at}
use Rattle.rank2.proofs.Given.{note_given, note_never}
use Rattle.rank2.proofs.Taken.{taken_either}
use Rattle.rank2.proofs.notes.note_at.Goals as goal

pub returns : goal.returns
returns c =
    let bounded = ap from_cents (c.rem_euclid-bounded.ensures ∙ ap (λ (x : Float). rem_euclid (mul binary64 x c.args.generator_cents) c.args.period_cents) c.generation_at.ensures) in
    taken_either says_ratio
    (λ v. (gives v.0 ≡ note_at c.args.generator_cents c.args.period_cents c.args.positive c.args.i) × (in_generator v.0 ≡ true))
    c.from_cents.result _ (c.from_cents.ensures ∙ bounded) c.unwrap_or.ensures
    (λ v h. note_given c.args.generator_cents c.args.period_cents c.requires.0 c.requires.1 c.args.positive c.args.i (omega (arith, c.well_formed)) h)
    (λ why h. note_never c.args.generator_cents c.args.period_cents c.requires.0 c.requires.1 c.args.positive c.args.i (omega (arith, c.well_formed)) h)
