-- `sift_down` meets its contract. The invariant: the heap holds but at i, and what is above i is not before what is below it (Sift.antt).
-- The measure is how often i can go to a child: at most 17 for 65,536 entries (Turns.antt).
use Rattle.sorting.proofs.Turns.{reach_falls}
use lib.Ieee.{nan}
use lib.IntN.{pos}
use Rattle.sorting.proofs.Theory.{top_below, top_child, length_swapped}
use mathlib.Core.Path.{◌≡◌, sym, ◌∙◌, ap}
use Prim.Native.Nat.{◌<◌}
use native.Mathlib.Omega.{arith}
use lib.ListN.{length}
use Rattle.sorting.proofs.Sift.{sinks_turn, sinks_end}
use Rattle.sorting.proofs.sift_down.Goals as goal

pub returns-then-c-i : goal.returns-then-c-i
returns-then-c-i c = sinks_end c.loop-i.invariant.4 _ c.top-c.ensures c.loop-i.invariant.0 (omega (arith, c.requires.1, c.loop-i.invariant.1)) c.if-c-i.true

pub swap_entries-requires : goal.swap_entries-requires
swap_entries-requires c =
    let below : c.top-c.result < c.args.k = rw c.top-c.ensures (top_below _ _ _ c.loop-i.invariant.0) in
    (omega (arith, c.loop-i.invariant.0, c.loop-i.invariant.1, c.requires.1), omega (arith, below, c.loop-i.invariant.1, c.requires.1), c.loop-i.invariant.2, c.loop-i.invariant.3)

pub loop-i-smaller : goal.loop-i-smaller
loop-i-smaller c =
    let kid = top_child _ _ _ (λ q. c.if-c-i.false (c.top-c.ensures ∙ q)) in
    reach_falls _ _ _ c.loop-i.invariant.0 (rw c.top-c.ensures kid.0)

pub loop-i-preserved : goal.loop-i-preserved
loop-i-preserved c =
    let below : c.top-c.result < c.args.k = rw c.top-c.ensures (top_below _ _ _ c.loop-i.invariant.0) in
    let l0 : length c.swap_entries.new.place ≡ length c.loop-i.place = ap length c.swap_entries.ensures.0 ∙ length_swapped 0 c.loop-i.place _ _ in
    let l1 : length c.swap_entries.new.ratio ≡ length c.loop-i.ratio = ap length c.swap_entries.ensures.1 ∙ length_swapped nan c.loop-i.ratio _ _ in
    let l2 : length c.swap_entries.new.wraps ≡ length c.loop-i.wraps = ap length c.swap_entries.ensures.2 ∙ length_swapped (pos 0) c.loop-i.wraps _ _ in (
      below,
      l0 ∙ c.loop-i.invariant.1,
      l1 ∙ c.loop-i.invariant.2 ∙ sym l0,
      l2 ∙ c.loop-i.invariant.3 ∙ sym l0,
      rw (c.swap_entries.ensures.0, c.swap_entries.ensures.1, c.swap_entries.ensures.2) (sinks_turn c.loop-i.invariant.4 _ c.top-c.ensures c.loop-i.invariant.0 (omega (arith, c.requires.1, c.loop-i.invariant.1)) c.if-c-i.false),
    )
