-- `highest` meets its contract. The invariant: of the pitch values from i on, top is the highest.
-- Assumes nothing.
use mathlib.Core.Path.{◌≡◌}
use Prim.Native.Nat.{◌≤◌, ◌-◌}
use Rattle.base.specs.Said.{gives}
use Rattle.rank2.specs.Notes.{pitch_at, highest_from}
use Rattle.rank2.proofs.notes.highest.Given as goal

abbrev pub invariant-loop-i : goal.invariant-loop-i
invariant-loop-i l =
    (l.i ≤ l.n) × (gives l.top ≡ highest_from (pitch_at l.period l.generator_cents l.period_cents l.positive) l.i (l.n - l.i))

abbrev pub decreases-loop-i : goal.decreases-loop-i
decreases-loop-i l = l.i
