-- `tested_run` meets its contract: 10, 12, else every key of the run as the single call has it.
-- Assumes nothing.
use mathlib.Core.Path.{◌≡◌, sym, ◌∙◌}
use mathlib.Core.Bool.{true, ◌&&◌}
use lib.ListN.{length}
use Rattle.kbm.specs.Middle.{counted}
use Rattle.kbm.specs.Root.{is_root}
use Rattle.kbm.specs.Table.{is_table}
use Rattle.pitch.specs.Answers.{says_pitch}
use Rattle.scl.proofs.Table.{both}
use Rattle.scl.specs.Table.{is_items, item_table, items_in}
use Rattle.tuning.specs.Run.{step_said, counted_pitches, is_tuning}
use Rattle.tuning.proofs.Run.{keys_same, run_unusable, run_done, run_short, numbers_short, sounded_same, numbers_same}
use Rattle.tuning.proofs.key_pitches.tested_run.Goals as goal
use Rattle.tuning.proofs.key_pitches.tested_run.Goals.{Then-is_tuning}

-- all tables can be used
tuned : (c : Then-is_tuning) → is_tuning c.args.count c.args.items.now c.args.kbm c.args.map.now ≡ true
tuned c = sym c.is_tuning.ensures ∙ c.if-is_tuning.true

parts : (c : Then-is_tuning) → (is_items c.args.count c.args.items.now ≡ true)
    × (is_table c.args.kbm.count c.args.map.now ≡ true)
parts c =
    let tuned : is_tuning c.args.count c.args.items.now c.args.kbm c.args.map.now ≡ true = sym c.is_tuning.ensures ∙ c.if-is_tuning.true in
    let table-in = is_table c.args.kbm.count c.args.map.now in
    let two = both (is_items c.args.count c.args.items.now) (is_root c.args.kbm.root && table-in) tuned in
    (two.0, (both (is_root c.args.kbm.root) table-in two.1).1)

pub root_of-root-requires : goal.root_of-root-requires
root_of-root-requires c = parts (goal.at.root_of-root-requires c).Then-is_tuning

pub fill-requires : goal.fill-requires
fill-requires c = ((parts (goal.at.fill-requires c).Then-is_tuning).0, (parts (goal.at.fill-requires c).Then-is_tuning).1, c.if-keys-hz.true, c.if-keys-numbers.true)

pub returns-then-keys-numbers : goal.returns-then-keys-numbers
returns-then-keys-numbers c =
    let done = run_done c.args.count c.args.items.now c.args.kbm c.args.map.now c.args.keys (length c.args.hz.now) (length c.args.numbers.now)
    (tuned (goal.at.returns-then-keys-numbers c).Then-is_tuning) c.if-keys-hz.true c.if-keys-numbers.true in
    let same = keys_same c.args.counting (items_in c.args.count c.args.items.now) c.args.kbm c.args.map.now c.args.first c.root_of-root.ensures in
    let kbm = counted c.args.counting c.args.kbm in
    let step = step_said (items_in c.args.count c.args.items.now) kbm c.args.map.now (says_pitch c.root_of-root.result) c.args.first in
    record {
      value = sym done;
      hz_after = rw done (c.fill.ensures.0 ∙ sounded_same step (counted_pitches c.args.counting (items_in c.args.count c.args.items.now) c.args.kbm c.args.map.now c.args.first) same c.args.keys c.args.hz.now);
      numbers_after = rw done (c.fill.ensures.1 ∙ numbers_same step (counted_pitches c.args.counting (items_in c.args.count c.args.items.now) c.args.kbm c.args.map.now c.args.first) same c.args.keys c.args.numbers.now);
    }

pub returns-else-keys-numbers : goal.returns-else-keys-numbers
returns-else-keys-numbers c =
    let e = numbers_short c.args.count c.args.items.now c.args.kbm c.args.map.now c.args.keys (length c.args.hz.now) (length c.args.numbers.now)
    (tuned (goal.at.returns-else-keys-numbers c).Then-is_tuning) c.if-keys-hz.true c.if-keys-numbers.false in
    record {
      value = sym e;
      hz_after = rw e;
      numbers_after = rw e;
    }

pub returns-else-keys-hz : goal.returns-else-keys-hz
returns-else-keys-hz c =
    let e = run_short c.args.count c.args.items.now c.args.kbm c.args.map.now c.args.keys (length c.args.hz.now) (length c.args.numbers.now)
    (tuned (goal.at.returns-else-keys-hz c).Then-is_tuning) c.if-keys-hz.false in
    record {
      value = sym e;
      hz_after = rw e;
      numbers_after = rw e;
    }

pub returns : goal.returns
returns c =
    let e = run_unusable c.args.count c.args.items.now c.args.kbm c.args.map.now c.args.keys (length c.args.hz.now) (length c.args.numbers.now)
    (sym c.is_tuning.ensures ∙ c.if-is_tuning.false) in
    record {
      value = sym e;
      hz_after = rw e;
      numbers_after = rw e;
    }
