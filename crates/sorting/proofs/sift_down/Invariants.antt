-- `sift_down` meets its contract. The invariant: the heap holds but at i, and what is above i is not before what is below it (Sift.antt).
-- The measure is how often i can go to a child: at most 17 for 65,536 entries (Turns.antt).
use Rattle.sorting.proofs.Turns.{reach}
use mathlib.Core.Path.{◌≡◌}
use Prim.Native.Nat.{◌<◌}
use lib.ListN.{length}
use Rattle.sorting.proofs.Sift.{Sinks}
use Rattle.sorting.proofs.sift_down.Given as goal

abbrev pub invariant-loop-i : goal.invariant-loop-i
invariant-loop-i l =
    (l.i < l.k) × (length l.place ≡ length l.initial.place) × (length l.ratio ≡ length l.place) × (length l.wraps ≡ length l.place) × Sinks l.s l.k l.i l.initial.place l.initial.ratio l.initial.wraps l.place l.ratio l.wraps

abbrev pub decreases-loop-i : goal.decreases-loop-i
decreases-loop-i l = reach l.k l.k l.i
