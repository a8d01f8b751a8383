-- `create_harmonics_scale` meets its contract: 10, then 12, then 18, then the run; a refusal writes nothing.
-- Assumes nothing.
use Rattle.std.proofs.Common.{ℕ, ap, ◌∙◌, arith}
use Rattle.std.proofs.lemmas.Grind.{common_steps}
use Rattle.scl.specs.Table.{item_table}
use Rattle.sorted.specs.Lent.{list_table}
use Rattle.scl_tables.specs.Build.{after_list}
use Rattle.scl_build.specs.Builder.{counted}
use Rattle.generate.specs.Generated.{all_pushed, list_of}
use Rattle.generate.proofs.Made.{all_refused}
use Rattle.harmonics.specs.Harmonics.{item_at}
use Rattle.harmonics.specs.Steps.{said_from}
use Rattle.harmonics.proofs.Plans.{none_start, no_place, plan_refused, plan_given}
use Rattle.harmonics.proofs.create_harmonics_scale.Goals as goal

pub returns-then-segment_start-eq0 : goal.returns-then-segment_start-eq0
returns-then-segment_start-eq0 c =
    let t = item_table c.args.kind.now c.args.cents.now c.args.numer.now c.args.denom.now in
    let l = list_table c.args.place.now c.args.ratio.now c.args.wraps.now in
    let x = all_refused t l (none_start t l c.args.segment_type c.args.segment_start c.args.segment_size c.args.neji_divisions c.if-segment_start-eq0.true) in
    record {
      value = x.0;
      table_after = x.1;
      list_after = x.2;
    }

pub returns-then-room-n : goal.returns-then-room-n
returns-then-room-n c =
    let t = item_table c.args.kind.now c.args.cents.now c.args.numer.now c.args.denom.now in
    let l = list_table c.args.place.now c.args.ratio.now c.args.wraps.now in
    let x = all_refused t l (no_place t l c.args.segment_type c.args.segment_start c.args.segment_size c.args.neji_divisions (omega (arith, c.if-segment_start-eq0.false)) (omega (arith, c.room_of-room.ensures, c.count_of-n.ensures, c.if-room-n.true))) in
    record {
      value = x.0;
      table_after = x.1;
      list_after = x.2;
    }

pub plan-requires : goal.plan-requires
plan-requires c = omega (arith, c.if-segment_start-eq0.false)

pub returns-in_err-steps : goal.returns-in_err-steps
returns-in_err-steps c =
    let t = item_table c.args.kind.now c.args.cents.now c.args.numer.now c.args.denom.now in
    let l = list_table c.args.place.now c.args.ratio.now c.args.wraps.now in
    let x = all_refused t l (plan_refused t l c.args.segment_type c.args.segment_start c.args.segment_size c.args.neji_divisions (omega (arith, c.if-segment_start-eq0.false)) (omega (arith, c.well_formed)) (omega (arith, c.well_formed)) (omega (arith, c.count_of-n.ensures, c.count_of-n.type_inv)) (omega (arith, c.room_of-room.ensures, c.count_of-n.ensures, c.if-room-n.false)) c.in_err-steps.ensures) in
    record {
      value = grind (arith, common_steps, x.0);
      table_after = x.1;
      list_after = x.2;
    }

pub returns : goal.returns
returns c =
    let t = item_table c.args.kind.now c.args.cents.now c.args.numer.now c.args.denom.now in
    let l = list_table c.args.place.now c.args.ratio.now c.args.wraps.now in
    let f = item_at c.args.segment_type c.args.segment_start c.args.segment_size c.in_ok-steps.steps in
    let x = plan_given t l c.args.segment_type c.args.segment_start c.args.segment_size c.args.neji_divisions (omega (arith, c.if-segment_start-eq0.false)) (omega (arith, c.well_formed)) (omega (arith, c.well_formed)) (omega (arith, c.count_of-n.ensures, c.count_of-n.type_inv)) (omega (arith, c.room_of-room.ensures, c.count_of-n.ensures, c.if-room-n.false)) c.in_ok-steps.ensures
    (c.write.ensures.value ∙ ap (λ (k : ℕ). counted (all_pushed t l (said_from f 1 k)).builder (list_of t l (said_from f 1 k))) c.count_of-n.ensures)
    (c.write.ensures.table_after ∙ ap (λ (k : ℕ). (all_pushed t l (said_from f 1 k)).table) c.count_of-n.ensures)
    (c.write.ensures.list_after ∙ ap (λ (k : ℕ). after_list (list_of t l (said_from f 1 k)) l) c.count_of-n.ensures) in
    record {
      value = x.0;
      table_after = x.1;
      list_after = x.2;
    }
