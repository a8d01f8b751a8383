-- `fill` writes the entries that the text gives. The invariant: of what the lines say a part is left, and the entries of what
-- came before it stand in the table, as many as n says.
use mathlib.Core.Path.{◌≡◌}
use Prim.Native.Nat.{◌≤◌, ◌-◌}
use lib.ListN.{length, drop}
use Rattle.text.specs.ReadLine.{said_in}
use Rattle.kbm_read.proofs.Fills.{Filled}
use Rattle.kbm_read.proofs.fill.Given as goal

abbrev pub invariant-loop-at : goal.invariant-loop-at
invariant-loop-at l =
    (l.at ≤ length l.text) × (length l.map ≡ length l.initial.map) × Filled (said_in l.text) l.initial.map l.required (said_in (drop l.at l.text)) l.map l.n

abbrev pub decreases-loop-at : goal.decreases-loop-at
decreases-loop-at l = length l.text - l.at
