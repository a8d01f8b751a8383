-- `found_at` meets its contract: what stands at the place.
-- Assumes nothing.
use mathlib.Core.Path.{refl}
use lib.IntN.{pos}
use lib.ListN.{get_or}
use mir.Facts.{to_z-of_z}
use mir.Syntax.{w32}
use Rattle.sorted.specs.Lent.{list_table}
use Rattle.relative.proofs.Places.{list_at}
use Rattle.searching.proofs.found_at.Goals as goal

pub returns : goal.returns
returns c =
    rw (to_z-of_z {w = w32} {z = c.wraps.result} (record { sfits = c.wraps.type_inv }), c.place.ensures, c.wraps.ensures, to_z-of_z c.ranges.periods, list_at c.args.count c.args.list.now c.requires.0 c.args.index c.requires.1)
    refl
