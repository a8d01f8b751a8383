-- By which numbers a text is no mapping file: document 01, "Lines", "the texts that draw none of 1 to 11, 13, 14 and 18"; document 02, W8,
-- "demand 3's language shrinks by these texts [..] 25". Assumes nothing.
use Rattle.std.specs.Prelude.{◌≡◌, ◌⊎◌, ℕ}
use Rattle.base.specs.Numbers.{backwards_range}
use Rattle.listing.specs.Drawn.{Drawn}

-- one of document 01's numbers, or 25
abbrev pub DrawnOr25 : ℕ → Type 0
DrawnOr25 n = Drawn n ⊎ (n ≡ backwards_range)
