-- `Ratio::from_octaves` meets its contract: E inside -900..900, whose result is always in the range; else 18.
-- Assumes nothing.
use mathlib.Core.Path.{◌≡◌, sym, ap, ◌∙◌}
use mathlib.Core.Bool.{true}
use lib.Ieee.{Float, binary64, fits}
use borrow.Author.Rules.{rules}
use Rattle.base.specs.Said.{gives, and_then}
use Rattle.explog.specs.Rules.{E}
use Rattle.explog.proofs.EndsE.{power_refused}
use Rattle.explog.proofs.Theorems.{exp_reach}
use Rattle.pitch.specs.Given.{computed}
use Rattle.pitch.proofs.Ratio.from_octaves.Goals as goal

-- what E gives needs no test
in_range : (x r : Float) → fits binary64 x ≡ true → gives r ≡ E x → gives r ≡ and_then (E x) computed
in_range x r f e = let inside = exp_reach x r f (sym e) in rw inside at (ap (λ s. and_then s computed) e)

pub returns-then-is_in_powers : goal.returns-then-is_in_powers
returns-then-is_in_powers c = in_range _ _ (search rules) c.power.ensures

pub returns-else-is_in_powers : goal.returns-else-is_in_powers
returns-else-is_in_powers c = ap (λ s. and_then s computed) (power_refused _ (sym c.is_in_powers.ensures ∙ c.if-is_in_powers.false))
