-- `digits` meets its contract. The loop's invariant: the run from `from` on is the run from `at` on, after what was read.
use mathlib.Core.Path.{◌≡◌}
use Prim.Native.Nat.{◌^◌, ◌≤◌, ◌<◌}
use lib.ListN.{length}
use Rattle.numerals.specs.Scan.{run_at}
use Rattle.numerals.proofs.digits.Given as goal

abbrev pub invariant-loop-at : goal.invariant-loop-at
invariant-loop-at l = (l.at ≤ length l.s) × (l.significant ≤ l.at) × (l.number < 10 ^ 18) × (run_at l.s l.n l.count l.from ≡ run_at l.s l.number l.significant l.at)
