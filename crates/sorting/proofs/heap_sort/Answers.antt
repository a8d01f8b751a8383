-- `heap_sort` meets its contract. First loop: the first n entries are a heap from s on. Second loop: what it has done, whatever the first one left.
-- Both by one record, Work.antt; the measures are s and k.
use mathlib.Core.Path.{◌≡◌, refl}
use Prim.Native.Nat.{◌<◌}
use native.Mathlib.Omega.{arith}
use lib.ListN.{length}
use Rattle.sorting.proofs.Work.{Sorting, sort_starts, sort_ends, one_sifted, one_taken}
use Rattle.sorting.proofs.heap_sort.Goals as goal
use Rattle.sorting.proofs.heap_sort.Goals.{After-loop-s, At-loop-k}

-- what the first loop leaves, and where the second one stands
heaped : (c : After-loop-s) → Sorting c.args.place.now c.args.ratio.now c.args.wraps.now 0 (length c.args.place.now) c.loop-s.place c.loop-s.ratio c.loop-s.wraps
heaped c =
    let e : c.loop-s.s ≡ 0 = omega (arith, c.loop-s-test.false) in
    rw e at c.loop-s.invariant.2

drained : (c : At-loop-k) → Sorting c.args.place.now c.args.ratio.now c.args.wraps.now 0 c.loop-k.k c.loop-k.place c.loop-k.ratio c.loop-k.wraps
drained c =
    let heaped : Sorting c.args.place.now c.args.ratio.now c.args.wraps.now 0 (length c.args.place.now) c.loop-s.place c.loop-s.ratio c.loop-s.wraps = let e : c.loop-s.s ≡ 0 = omega (arith, c.loop-s-test.false) in
    rw e at c.loop-s.invariant.2 in
    c.loop-k.invariant.law _ _ _ c.requires.3 heaped

pub loop-s-init : goal.loop-s-init
loop-s-init c = (refl, omega arith, sort_starts _ _ _ c.requires.0 c.requires.1 c.requires.2 _ _ refl (omega arith))

pub loop-s-preserved : goal.loop-s-preserved
loop-s-preserved c = (refl, omega (arith, c.loop-s.invariant.1), one_sifted c.requires.3 c.loop-s-test.true c.loop-s.invariant.2 c.sift_down.ensures)

pub loop-k-preserved : goal.loop-k-preserved
loop-k-preserved c =
    let more : 1 < c.loop-k.k = omega (arith, c.loop-k-test.true) in
    record {
      law = λ ps rs ws a w. one_sifted a (omega arith) (one_taken a more (c.loop-k.invariant.law ps rs ws a w) c.swap_entries.ensures) c.sift_down-in-loop-k.ensures;
    }

pub returns : goal.returns
returns c = sort_ends _ _ _ c.requires.0 c.requires.1 c.requires.2 (drained (goal.at.returns c).At-loop-k) (omega (arith, c.loop-k-test.false))
