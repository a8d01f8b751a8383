-- What the sort asks of the columns that it is lent, and its test for a list that is in order. Assumes nothing.
use Rattle.std.specs.Prelude.{Bool, true, false, List, [], ◌∷◌, ℕ, ◌<◌, T, length, get_or, Float}
use Rattle.std.specs.Float.{nan}
use Rattle.std.specs.Float.Ieee.{lt}
use Rattle.std.specs.Float.Ieee.Positive.{positive}
use Rattle.base.specs.Said.{pick}
use Rattle.floats.specs.Floats.{zero_f}

-- each ratio is finite and above zero
abbrev pub AllPositive : List Float → Type 0
AllPositive rs = (i : ℕ) → i < length rs → T (positive (get_or rs i nan))

-- each place is above those before it
abbrev pub Ascending : List ℕ → Type 0
Ascending ps = (i j : ℕ) → i < j → j < length ps → get_or ps i 0 < get_or ps j 0

-- no ratio is below the one before it; the first one is not below p
abbrev pub rises_from : Float → List Float → Bool
rises_from p [] = true
rises_from p (r ∷ rs) = pick (lt r p) false (rises_from r rs)

abbrev pub in_order : List Float → Bool
in_order rs = rises_from zero_f rs
