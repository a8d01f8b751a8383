-- `push_all` meets its contract. The invariant: the pushes that are left make of the state what all pushes make of the first one.
-- Assumes nothing.
use mathlib.Core.Path.{◌≡◌}
use Prim.Native.Nat.{◌≤◌}
use lib.ListN.{length, take, drop}
use Rattle.scl.specs.Table.{item_table}
use Rattle.scl_build.specs.Builder.{beside}
use Rattle.generate.proofs.Kept.{Kept}
use Rattle.rank2.specs.Steps.{after_ratios}
use Rattle.rank2.proofs.push_all.Given as goal

abbrev pub invariant-loop-value : goal.invariant-loop-value
invariant-loop-value l =
    (l.n ≤ length l.ratio) × Kept (item_table l.kind l.cents l.numer l.denom) (item_table l.initial.kind l.initial.cents l.initial.numer l.initial.denom)
    × (after_ratios (beside l.builder (item_table l.kind l.cents l.numer l.denom)) (drop l.value-index (take l.n l.ratio)) ≡ after_ratios (beside l.initial.builder (item_table l.initial.kind l.initial.cents l.initial.numer l.initial.denom)) (take l.n l.ratio))
