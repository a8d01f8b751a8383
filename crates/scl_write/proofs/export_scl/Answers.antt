-- `export_scl` meets its contract: 10 for the items or the description, else what the scale's text gives.
-- Assumes nothing.
use mathlib.Core.Path.{◌≡◌, refl, sym, ◌∙◌}
use mathlib.Core.Bool.{true}
use native.Mathlib.Omega.{arith}
use Rattle.scl.specs.Table.{Typed, item_table, is_items}
use Rattle.scl_write.specs.Export.{export_of}
use Rattle.scl_write.proofs.Bound.{as_clauses, full_too}
use Prim.Native.Nat.{◌≤◌}
use Rattle.base.proofs.Clauses.{as_pair}
use Rattle.scl_write.proofs.export_scl.Goals as goal
use Rattle.scl_write.proofs.export_scl.Goals.{After-holds, Start, Then-holds, else-holds-via-then-holds+else-is_utf8, else-holds-via-else-holds}

-- what stands in the columns of u32 is below 2^32, and the count is a u16
typed : (c : After-holds) → Typed c.args.items.now
typed c = c.holds.ensures.typed

few : (c : Start) → c.args.scl.count ≤ 65535
few c = omega (arith, c.well_formed.0.1.1.0.1)

-- the items can be used
items : (c : Then-holds) → is_items c.args.scl.count c.args.items.now ≡ true
items c = sym c.holds.ensures.value ∙ c.if-holds.true

pub write_scale-requires : goal.write_scale-requires
write_scale-requires c = (items (goal.at.write_scale-requires c).Then-holds, few (goal.at.write_scale-requires c).Start)

pub returns-then-is_utf8 : goal.returns-then-is_utf8
unfolding export_of
returns-then-is_utf8 c =
    as_clauses
    (full_too c.args.scl c.args.items.now c.args.description.now (few (goal.at.returns-then-is_utf8 c).Start) (typed (goal.at.returns-then-is_utf8 c).After-holds) c.args.out.now
    (rw (items (goal.at.returns-then-is_utf8 c).Then-holds, sym c.is_utf8.ensures ∙ c.if-is_utf8.true) (as_pair c.write_scale.ensures)))

pub returns : goal.returns
unfolding export_of
returns c =
    let kept = full_too c.args.scl c.args.items.now c.args.description.now (few (goal.at.returns c).Start) (typed (goal.at.returns c).After-holds) c.args.out.now in
    elim c.else-holds.branch [
      | else-holds-via-then-holds+else-is_utf8 w ↦
          as_clauses (kept (rw (sym c.holds.ensures.value ∙ w.if-holds.true, sym w.is_utf8.ensures ∙ w.if-is_utf8.false) (refl, refl)))
      | else-holds-via-else-holds w ↦ as_clauses (kept (rw (sym c.holds.ensures.value ∙ w.if-holds.false) (refl, refl)))
    ]
