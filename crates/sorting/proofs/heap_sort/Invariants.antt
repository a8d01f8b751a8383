-- `heap_sort` meets its contract. First loop: the first n entries are a heap from s on. Second loop: what it has done, whatever the first one left.
-- Both by one record, Work.antt; the measures are s and k.
use mathlib.Core.Path.{◌≡◌}
use Prim.Native.Nat.{◌≤◌, ◌/◌}
use lib.ListN.{length}
use Rattle.sorting.proofs.Work.{Sorting, Drains}
use Rattle.sorting.proofs.heap_sort.Given as goal

abbrev pub invariant-loop-s : goal.invariant-loop-s
invariant-loop-s l = (l.n ≡ length l.initial.place) × (l.s ≤ l.n / 2) × Sorting l.initial.place l.initial.ratio l.initial.wraps l.s l.n l.place l.ratio l.wraps

abbrev pub decreases-loop-s : goal.decreases-loop-s
decreases-loop-s l = l.s

abbrev pub invariant-loop-k : goal.invariant-loop-k
invariant-loop-k l = Drains l.n l.initial.place l.initial.ratio l.initial.wraps l.k l.place l.ratio l.wraps

abbrev pub decreases-loop-k : goal.decreases-loop-k
decreases-loop-k l = l.k
