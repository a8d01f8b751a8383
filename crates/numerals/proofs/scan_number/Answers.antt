-- `scan_number` meets its contract: digits, an optional dot, digits, and what follows.
-- Each run starts where the last thing read ended, and stays within the text.
use mathlib.Core.Path.{◌∙◌}
use native.Mathlib.Omega.{arith}
use Prim.Native.Nat.{◌≤◌}
use lib.ListN.{length}
use Rattle.numerals.proofs.Runs.{number_is}
use Rattle.numerals.proofs.Bounds.{Bounded, run_in, dot_in}
use Rattle.numerals.proofs.scan_number.Goals as goal
use Rattle.numerals.proofs.scan_number.Goals.{After-after_dot-dot, After-digits-part, After-digits-whole}

whole_in : (c : After-digits-whole) → Bounded c.args.from (length c.args.s.now) c.digits-whole.result
whole_in c = run_in c.args.s.now 0 0 c.args.from (omega arith) (omega arith) c.requires c.digits-whole.ensures

dot_within : (c : After-after_dot-dot) → (c.digits-whole.result.at ≤ c.after_dot-dot.result) × (c.after_dot-dot.result ≤ length c.args.s.now)
dot_within c =
    let whole_in : Bounded c.args.from (length c.args.s.now) c.digits-whole.result = run_in c.args.s.now 0 0 c.args.from (omega arith) (omega arith) c.requires c.digits-whole.ensures in
    rw c.after_dot-dot.ensures (dot_in c.args.s.now c.digits-whole.result.at whole_in.ends)

part_in : (c : After-digits-part) → Bounded c.after_dot-dot.result (length c.args.s.now) c.digits-part.result
part_in c =
    let whole_in : Bounded c.args.from (length c.args.s.now) c.digits-whole.result = run_in c.args.s.now 0 0 c.args.from (omega arith) (omega arith) c.requires c.digits-whole.ensures in
    let dot_within : (c.digits-whole.result.at ≤ c.after_dot-dot.result) × (c.after_dot-dot.result ≤ length c.args.s.now) = rw c.after_dot-dot.ensures (dot_in c.args.s.now c.digits-whole.result.at whole_in.ends) in
    let w = whole_in in
    let d = dot_within in
    run_in c.args.s.now c.digits-whole.result.n c.digits-whole.result.significant c.after_dot-dot.result
    w.small (omega (arith, w.counts, d.0)) d.1 c.digits-part.ensures

pub digits-part-requires : goal.digits-part-requires
digits-part-requires c =
    let w = whole_in (goal.at.digits-part-requires c).After-digits-whole in
    let d = dot_within (goal.at.digits-part-requires c).After-after_dot-dot in
    (w.small, omega (arith, w.counts, d.0), d.1)

pub overflow_sub-places : goal.overflow_sub-places
overflow_sub-places c = (part_in (goal.at.overflow_sub-places c).After-digits-part).starts

pub overflow_sub-whole : goal.overflow_sub-whole
overflow_sub-whole c = (whole_in (goal.at.overflow_sub-whole c).After-digits-whole).starts

pub overflow_add-whole : goal.overflow_add-whole
overflow_add-whole c =
    let w = whole_in (goal.at.overflow_add-whole c).After-digits-whole in
    omega (arith, w.ends, (dot_within (goal.at.overflow_add-whole c).After-after_dot-dot).0, (part_in (goal.at.overflow_add-whole c).After-digits-part).ends)

pub returns : goal.returns
returns c = c.ended.ensures ∙ number_is _ _ _ c.digits-whole.ensures c.after_dot-dot.ensures c.digits-part.ensures
