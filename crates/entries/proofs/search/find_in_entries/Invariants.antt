-- Invariant: the scan has gone over the first i entries.
use Rattle.std.proofs.Common.{◌≡◌, ◌≤◌}
use Rattle.entries.specs.Scans.{scanned}
use Rattle.entries.proofs.search.find_in_entries.Given as goal

abbrev pub invariant-loop-i : goal.invariant-loop-i
invariant-loop-i l = (l.i ≤ l.n) × (l.s ≡ scanned l.initial.s l.list l.i)
