-- `push_all` meets its contract. The invariant: the pushes that are left make of the state what all pushes make of the first one.
-- Assumes nothing.
use Rattle.std.proofs.Common.{◌≡◌, ◌≤◌}
use Rattle.scl.specs.Table.{item_table}
use Rattle.scl_build.specs.Builder.{beside, after_all}
use Rattle.harmonics.specs.Harmonics.{item_at}
use Rattle.harmonics.specs.Steps.{said_from}
use Rattle.generate.proofs.Kept.{Kept}
use Rattle.harmonics.proofs.Pushes.{left_after}
use Rattle.harmonics.proofs.push_all.Given as goal

abbrev pub invariant-loop-i : goal.invariant-loop-i
invariant-loop-i l =
    (l.i ≤ l.n) × Kept (item_table l.kind l.cents l.numer l.denom) (item_table l.initial.kind l.initial.cents l.initial.numer l.initial.denom)
    × (after_all (beside l.builder (item_table l.kind l.cents l.numer l.denom)) (left_after (item_at l.segment_type l.start l.size l.steps) l.n l.i) ≡ after_all (beside l.initial.builder (item_table l.initial.kind l.initial.cents l.initial.numer l.initial.denom)) (said_from (item_at l.segment_type l.start l.size l.steps) 1 l.n))
