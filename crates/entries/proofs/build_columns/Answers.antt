-- `build_columns` meets its contract: the list's room is tested, then the columns are built.
-- Assumes nothing.
use native.Mathlib.Omega.{arith}
use Rattle.sorted.specs.Lent.{list_table}
use Rattle.scl.specs.Table.{Typed, item_table}
use Rattle.entries.proofs.Builds.{short_holds, long_holds}
use Rattle.entries.proofs.build_columns.Goals as goal
use Rattle.entries.proofs.build_columns.Goals.{After-shared_slice_known-4-1}

-- what stands in the columns of u32 is below 2^32
typed : (c : After-shared_slice_known-4-1) → Typed (item_table c.args.kind.now c.args.cents.now c.args.numer.now c.args.denom.now)
typed c = record { numers = λ i. omega (arith, c.type_inv.numer i); denoms = λ i. omega (arith, c.type_inv.denom i) }

pub returns-then-places-state : goal.returns-then-places-state
returns-then-places-state c = short_holds c.args.state (item_table c.args.kind.now c.args.cents.now c.args.numer.now c.args.denom.now) (list_table c.args.place.now c.args.ratio.now c.args.wraps.now) c.args.places (typed (goal.at.returns-then-places-state c).After-shared_slice_known-4-1) c.if-places-state.true

pub returns : goal.returns
returns c = long_holds c.args.state (item_table c.args.kind.now c.args.cents.now c.args.numer.now c.args.denom.now) (list_table c.args.place.now c.args.ratio.now c.args.wraps.now) c.args.places (typed (goal.at.returns c).After-shared_slice_known-4-1) c.if-places-state.false c.build.ensures.value
