-- `SclBuilder::build` meets its contract: 10, then 13, then 18, then the list; a refusal writes nothing.
-- Assumes nothing.
use mathlib.Core.Path.{sym, ◌∙◌, ap}
use native.Mathlib.Omega.{arith}
use Rattle.sorted.specs.Lent.{list_table}
use Rattle.scl.specs.Items.{is_usable}
use Rattle.scl.specs.Table.{Typed, item_table}
use Rattle.scl_build.proofs.Builds.{build_refused, build_given, not_ready, ready_items, places_room, ratios_room, wraps_room, items_room, ready_last, last_usable, too_many, beyond, within}
use Rattle.scl_build.proofs.Comes.{comes_too, value_and_comes}
use Rattle.scl_build.proofs.SclBuilder.build.Goals as goal
use Rattle.scl_build.proofs.SclBuilder.build.Goals.{After-shared_slice_known-4-1}

-- what stands in the columns of u32 is below 2^32
typed : (c : After-shared_slice_known-4-1) → Typed (item_table c.args.kind.now c.args.cents.now c.args.numer.now c.args.denom.now)
typed c = record { numers = λ i. omega (arith, c.type_inv.numer i); denoms = λ i. omega (arith, c.type_inv.denom i) }

pub returns-then-count-gt65535 : goal.returns-then-count-gt65535
returns-then-count-gt65535 c =
    value_and_comes
    (comes_too c.args.self (item_table c.args.kind.now c.args.cents.now c.args.numer.now c.args.denom.now) (list_table c.args.place.now c.args.ratio.now c.args.wraps.now) (typed (goal.at.returns-then-count-gt65535 c).After-shared_slice_known-4-1)
    (build_refused c.args.self (item_table c.args.kind.now c.args.cents.now c.args.numer.now c.args.denom.now) (list_table c.args.place.now c.args.ratio.now c.args.wraps.now) (too_many c.args.self (item_table c.args.kind.now c.args.cents.now c.args.numer.now c.args.denom.now) (list_table c.args.place.now c.args.ratio.now c.args.wraps.now) (sym c.is_ready.ensures ∙ c.if-is_ready.true) (omega (arith, c.if-count-gt65535.true)))))

pub item-last-requires : goal.item-last-requires
item-last-requires c =
    let room = items_room c.args.self (item_table c.args.kind.now c.args.cents.now c.args.numer.now c.args.denom.now) (list_table c.args.place.now c.args.ratio.now c.args.wraps.now) (sym c.is_ready.ensures ∙ c.if-is_ready.true) in
    rw c.new-items.ensures (record { kinds = room.0; cents = room.1; numers = room.2; denoms = room.3 })

pub is_beyond-requires : goal.is_beyond-requires
is_beyond-requires c = ap is_usable ((rw c.new-items.ensures at c.item-last.ensures) ∙ sym (ready_last c.args.self (item_table c.args.kind.now c.args.cents.now c.args.numer.now c.args.denom.now) (list_table c.args.place.now c.args.ratio.now c.args.wraps.now) (sym c.is_ready.ensures ∙ c.if-is_ready.true))) ∙ last_usable c.args.self (item_table c.args.kind.now c.args.cents.now c.args.numer.now c.args.denom.now) (list_table c.args.place.now c.args.ratio.now c.args.wraps.now) (sym c.is_ready.ensures ∙ c.if-is_ready.true)

pub returns-then-is_beyond : goal.returns-then-is_beyond
returns-then-is_beyond c =
    value_and_comes
    (comes_too c.args.self (item_table c.args.kind.now c.args.cents.now c.args.numer.now c.args.denom.now) (list_table c.args.place.now c.args.ratio.now c.args.wraps.now) (typed (goal.at.returns-then-is_beyond c).After-shared_slice_known-4-1)
    (build_refused c.args.self (item_table c.args.kind.now c.args.cents.now c.args.numer.now c.args.denom.now) (list_table c.args.place.now c.args.ratio.now c.args.wraps.now) (beyond c.args.self (item_table c.args.kind.now c.args.cents.now c.args.numer.now c.args.denom.now) (list_table c.args.place.now c.args.ratio.now c.args.wraps.now) (sym c.is_ready.ensures ∙ c.if-is_ready.true) c.if-count-gt65535.false (rw c.new-items.ensures at c.item-last.ensures) (sym c.is_beyond.ensures ∙ c.if-is_beyond.true))))

pub build_list-requires : goal.build_list-requires
build_list-requires c =
    let h = (sym c.is_ready.ensures ∙ c.if-is_ready.true) in
    rw c.new-items.ensures
    (ready_items c.args.self (item_table c.args.kind.now c.args.cents.now c.args.numer.now c.args.denom.now) (list_table c.args.place.now c.args.ratio.now c.args.wraps.now) h, c.if-count-gt65535.false, places_room c.args.self (item_table c.args.kind.now c.args.cents.now c.args.numer.now c.args.denom.now) (list_table c.args.place.now c.args.ratio.now c.args.wraps.now) h, ratios_room c.args.self (item_table c.args.kind.now c.args.cents.now c.args.numer.now c.args.denom.now) (list_table c.args.place.now c.args.ratio.now c.args.wraps.now) h, wraps_room c.args.self (item_table c.args.kind.now c.args.cents.now c.args.numer.now c.args.denom.now) (list_table c.args.place.now c.args.ratio.now c.args.wraps.now) h)

pub returns-then-is_ready : goal.returns-then-is_ready
returns-then-is_ready c =
    value_and_comes
    (comes_too c.args.self (item_table c.args.kind.now c.args.cents.now c.args.numer.now c.args.denom.now) (list_table c.args.place.now c.args.ratio.now c.args.wraps.now) (typed (goal.at.returns-then-is_ready c).After-shared_slice_known-4-1)
    (build_given c.args.self (item_table c.args.kind.now c.args.cents.now c.args.numer.now c.args.denom.now) (list_table c.args.place.now c.args.ratio.now c.args.wraps.now) (within c.args.self (item_table c.args.kind.now c.args.cents.now c.args.numer.now c.args.denom.now) (list_table c.args.place.now c.args.ratio.now c.args.wraps.now) (sym c.is_ready.ensures ∙ c.if-is_ready.true) c.if-count-gt65535.false (rw c.new-items.ensures at c.item-last.ensures) (sym c.is_beyond.ensures ∙ c.if-is_beyond.false)) (rw c.new-items.ensures at c.build_list.ensures.0) (rw c.new-items.ensures at c.build_list.ensures.1)))

pub returns : goal.returns
returns c =
    value_and_comes
    (comes_too c.args.self (item_table c.args.kind.now c.args.cents.now c.args.numer.now c.args.denom.now) (list_table c.args.place.now c.args.ratio.now c.args.wraps.now) (typed (goal.at.returns c).After-shared_slice_known-4-1)
    (build_refused c.args.self (item_table c.args.kind.now c.args.cents.now c.args.numer.now c.args.denom.now) (list_table c.args.place.now c.args.ratio.now c.args.wraps.now) (not_ready c.args.self (item_table c.args.kind.now c.args.cents.now c.args.numer.now c.args.denom.now) (list_table c.args.place.now c.args.ratio.now c.args.wraps.now) (sym c.is_ready.ensures ∙ c.if-is_ready.false))))
