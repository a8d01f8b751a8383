-- The ratio's digits and exponent, and the best fraction for these; the f64 is that many units of 2 ^ -1074. No loop. Assumes nothing.
use native.Mathlib.Nat.{le_trans}
use lib.Dec.{lit≤}
use Rattle.floats.proofs.Ranges.{search_says, within_finite}
use Rattle.floats.proofs.Units.{within_units, full_digits}
use Rattle.best.proofs.best_for.Goals as goal

pub unpack-parts-requires : goal.unpack-parts-requires
unpack-parts-requires c = within_finite (search_says _ c.requires.0)

pub best_of-best-requires : goal.best_of-best-requires
best_of-best-requires c =
    let least = within_units 64 (lit≤ tt) (search_says _ c.requires.0) in
    (c.requires.1, full_digits c.unpack-parts.ensures (le_trans (lit≤ tt) least), c.unpack-parts.ensures.small)
