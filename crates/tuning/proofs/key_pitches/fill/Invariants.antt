-- `fill` meets its contract: each key in its turn. The invariant: the keys before k have answered.
-- Assumes nothing.
use mathlib.Core.Path.{◌≡◌}
use Prim.Native.Nat.{◌≤◌}
use Rattle.kbm.specs.Middle.{counted}
use Rattle.scl.specs.Table.{item_table, items_in}
use Rattle.pitch.specs.Answers.{says_pitch}
use Rattle.tuning.specs.Run.{step_said, sounded_to, numbers_to}
use Rattle.tuning.proofs.key_pitches.fill.Given as goal

abbrev pub invariant-loop-k : goal.invariant-loop-k
invariant-loop-k l =
    let says = step_said (items_in l.count l.items) (counted l.counting l.kbm) l.map (says_pitch l.root) l.first in
    (l.k ≤ l.keys) × (l.hz ≡ sounded_to says l.k l.initial.hz) × (l.numbers ≡ numbers_to says l.k l.initial.numbers)
