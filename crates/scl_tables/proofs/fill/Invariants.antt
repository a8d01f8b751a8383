-- The first i places hold the entries of the first i items.
use mathlib.Core.Path.{◌≡◌}
use lib.ListN.{length}
use Rattle.scl.specs.Table.{items_of}
use Rattle.scl_tables.proofs.Filling.{Filled}
use Rattle.scl_tables.proofs.fill.Given as goal

abbrev pub invariant-loop-i : goal.invariant-loop-i
invariant-loop-i l =
    (length l.ratio ≡ length l.initial.ratio) × (length l.wraps ≡ length l.initial.wraps) × Filled l.period.ratio (items_of l.items.kinds l.items.cents l.items.numers l.items.denoms) l.i l.ratio l.wraps
