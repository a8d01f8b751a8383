-- The result is Rust's `%`.
-- No loop; where both are numbers the call's, else the definition's cases.
use mathlib.Core.Path.{◌≡◌, sym, ◌∙◌, subst}
use mathlib.Core.Bool.{Bool, true}
use borrow.Author.Rules.{rules}
use lib.Dec.{T}
use lib.Ieee.{Float, div, of_bits}
use lib.Ieee.Scale.{finite}
use Rattle.remainder.proofs.Modulo.{no_dividend, by_infinity, by_nan}
use Rattle.remainder.proofs.rem_of.Goals as goal

number : (x : Float) (r : Bool) → r ≡ finite x → r ≡ true → T (finite x)
number x r e h = subst T (sym h ∙ e) tt

pub rem_of_numbers-requires : goal.rem_of_numbers-requires
rem_of_numbers-requires c = (number c.args.a _ c.is_number.ensures c.if-is_number.true, number c.args.b _ c.is_number-then-is_number.ensures c.if-is_number-2.true)

pub returns-then-b : goal.returns-then-b
returns-then-b c = by_infinity _ _ (sym c.is_number.ensures ∙ c.if-is_number.true) (sym c.is_number-then-is_number.ensures ∙ c.if-is_number-2.false) c.if-b.true

pub returns-else-b : goal.returns-else-b
returns-else-b c = by_nan _ _ (sym c.is_number.ensures ∙ c.if-is_number.true) (sym c.is_number-then-is_number.ensures ∙ c.if-is_number-2.false) c.if-b.false

pub returns-else-is_number : goal.returns-else-is_number
unfolding div of_bits
returns-else-is_number c = no_dividend _ _ (sym c.is_number.ensures ∙ c.if-is_number.false)
