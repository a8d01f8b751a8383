-- What a stable order is, as one may check it beside document 01 ("stable order"): no ratio is below one before it, and entries of
-- one ratio stand as they stood. That `sort_by lower` is this order, and the only one, is in proofs/Stable.antt. Assumes nothing.
use Rattle.std.specs.Prelude.{◌≡◌, Bool, false, not, ◌&&◌, List, [], ◌∷◌, map, ℕ, ◌<◌, T, length, get_or, Float}
use Rattle.std.specs.Float.{nan}
use Rattle.std.specs.Float.Ieee.{lt}
use Rattle.std.specs.Float.Ieee.Positive.{positive}
use Rattle.base.specs.Said.{pick}
use Rattle.sorting.specs.Asked.{AllPositive}
use Rattle.sorting.specs.Entries.{Entry}
use Rattle.sorting.specs.Order.{lower}

-- no ratio is below one before it
abbrev pub NeverFalls : List Float → Type 0
NeverFalls rs = (i j : ℕ) → i < j → j < length rs → lt (get_or rs j nan) (get_or rs i nan) ≡ false

-- neither ratio is below the other
abbrev pub same : Entry → Entry → Bool
same x y = not (lower x y) && not (lower y x)

-- the entries that have the ratio of x, in their order
unfoldable pub likes : Entry → List Entry → List Entry
likes x [] = []
likes x (e ∷ es) = pick (same x e) (e ∷ likes x es) (likes x es)

-- fs is the stable order of es, whose ratios are all finite and above zero
pub record StableOrder (es fs : List Entry) : Type 0 where
  pub above : AllPositive (map (λ (e : Entry). e.ratio) fs)
  pub rises : NeverFalls (map (λ (e : Entry). e.ratio) fs)
  pub kept : (x : Entry) → T (positive x.ratio) → likes x fs ≡ likes x es
