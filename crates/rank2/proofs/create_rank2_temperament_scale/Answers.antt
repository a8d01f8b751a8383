-- `create_rank2_temperament_scale` meets its contract: 13, then 10, then 12, then 18, then the run; a refusal writes nothing.
-- Assumes nothing.
use mathlib.Core.Path.{sym, ◌∙◌, ap}
use mathlib.Core.List.{List}
use native.Mathlib.Omega.{arith}
use Rattle.base.specs.Said.{Said}
use Rattle.scl.specs.Table.{item_table}
use Rattle.scl.specs.declared.Item.{Item}
use Rattle.sorted.specs.Lent.{list_table}
use Rattle.generate.specs.Generated.{counted_of, items_left, list_left}
use Rattle.generate.proofs.Made.{all_refused}
use Rattle.rank2.proofs.Calls.{temperament_says, period_cents, too_many, not_usable, no_place, call_is}
use Rattle.rank2.proofs.create_rank2_temperament_scale.Goals as goal

pub returns-then-n-gt65535 : goal.returns-then-n-gt65535
returns-then-n-gt65535 c =
    let t = item_table c.args.kind.now c.args.cents.now c.args.numer.now c.args.denom.now in
    let l = list_table c.args.place.now c.args.ratio.now c.args.wraps.now in
    let x = all_refused t l (too_many t l c.args.generator.0 c.args.num_pos_generations c.args.num_neg_generations c.args.period.0 (omega (arith, c.if-n-gt65535.true))) in
    record {
      value = x.0;
      table_after = x.1;
      list_after = x.2;
    }

pub returns-then-room-n : goal.returns-then-room-n
returns-then-room-n c =
    let t = item_table c.args.kind.now c.args.cents.now c.args.numer.now c.args.denom.now in
    let l = list_table c.args.place.now c.args.ratio.now c.args.wraps.now in
    let x = all_refused t l (no_place t l c.args.generator.0 c.args.num_pos_generations c.args.num_neg_generations c.args.period.0 (omega (arith, c.if-n-gt65535.false)) (sym c.is_temperament.ensures ∙ c.if-is_temperament.true) (omega (arith, c.room_of-room.ensures, c.if-room-n.true))) in
    record {
      value = x.0;
      table_after = x.1;
      list_after = x.2;
    }

pub cents_of-requires : goal.cents_of-requires
cents_of-requires c = (temperament_says _ _ (sym c.is_temperament.ensures ∙ c.if-is_temperament.true)).by

pub cents_of-requires-then-is_temperament : goal.cents_of-requires-then-is_temperament
cents_of-requires-then-is_temperament c = (temperament_says _ _ (sym c.is_temperament.ensures ∙ c.if-is_temperament.true)).within

pub make-requires : goal.make-requires
make-requires c =
    let h = temperament_says _ _ (sym c.is_temperament.ensures ∙ c.if-is_temperament.true) in
    (omega arith, omega (arith, c.room_of-room.ensures, c.if-room-n.false), h.within, c.cents_of.ensures.1, period_cents c.args.period.0 c.well_formed.1.1.1.0.1.1.0.1 h.within h.some c.cents_of-then-is_temperament.ensures.0)

pub returns-then-is_temperament : goal.returns-then-is_temperament
returns-then-is_temperament c =
    let t = item_table c.args.kind.now c.args.cents.now c.args.numer.now c.args.denom.now in
    let l = list_table c.args.place.now c.args.ratio.now c.args.wraps.now in
    let q = call_is t l c.args.generator.0 c.args.num_pos_generations c.args.num_neg_generations c.args.period.0 (omega (arith, c.if-n-gt65535.false)) (sym c.is_temperament.ensures ∙ c.if-is_temperament.true) c.cents_of.ensures.0 c.cents_of-then-is_temperament.ensures.0 in
    record {
      value = c.make.ensures.value ∙ ap counted_of q;
      table_after = c.make.ensures.table_after ∙ ap (λ (z : Said (List Item)). items_left z t l) q;
      list_after = c.make.ensures.list_after ∙ ap (λ (z : Said (List Item)). list_left z t l) q;
    }

pub returns : goal.returns
returns c =
    let t = item_table c.args.kind.now c.args.cents.now c.args.numer.now c.args.denom.now in
    let l = list_table c.args.place.now c.args.ratio.now c.args.wraps.now in
    let x = all_refused t l (not_usable t l c.args.generator.0 c.args.num_pos_generations c.args.num_neg_generations c.args.period.0 (omega (arith, c.if-n-gt65535.false)) (sym c.is_temperament.ensures ∙ c.if-is_temperament.false)) in
    record {
      value = x.0;
      table_after = x.1;
      list_after = x.2;
    }
