-- Invariant: the first i entries are those of the columns, one after the other.
use Rattle.std.proofs.Common.{◌≡◌, ◌≤◌}
use Rattle.entries.specs.Entries.{sorted_entry_at, filled}
use Rattle.entries.proofs.store_list.Given as goal

abbrev pub invariant-loop-i : goal.invariant-loop-i
invariant-loop-i l = (l.i ≤ l.n) × (l.list ≡ filled (sorted_entry_at l.place l.ratio l.wraps) l.i l.initial.list)
