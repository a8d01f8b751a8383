-- `keep_first` meets its contract. The invariant: the first k entries are done, and q is the last one kept (Keep.antt).
-- The measure is the number of entries left.
use mathlib.Core.Path.{sym, ◌∙◌}
use Prim.Native.Nat.{◌<◌}
use native.Mathlib.Omega.{arith}
use lib.ListN.{length}
use Rattle.sorted.proofs.Keep.{pass_repeat, pass_new, passed_all}
use Rattle.sorted.proofs.keep_first.Goals as goal
use Rattle.sorted.proofs.keep_first.Goals.{then-is_near, else-is_near}

pub loop-k-preserved : goal.loop-k-preserved
loop-k-preserved c =
    let in_k : c.loop-k.k < length c.loop-k.place = omega (arith, c.loop-k.invariant.ratios, c.loop-k-test.true) in
    elim c.if-is_near.branch [
      | then-is_near w ↦
          rw (w.place-is, w.ratio-is, w.wraps-is, w.q-is, w.copy_entry.ensures.0, w.copy_entry.ensures.1, w.copy_entry.ensures.2)
          (pass_repeat c.loop-k.invariant in_k (sym c.is_near.ensures ∙ w.if-is_near.true))
      | else-is_near w ↦
          rw (w.place-is, w.ratio-is, w.wraps-is, w.q-is)
          (pass_new c.loop-k.invariant in_k (sym c.is_near.ensures ∙ w.if-is_near.false))
    ]

pub returns : goal.returns
returns c = passed_all c.loop-k.invariant (omega (arith, c.loop-k.invariant.ratios, c.loop-k-test.false))
