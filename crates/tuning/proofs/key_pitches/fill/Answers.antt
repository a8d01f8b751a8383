-- `fill` meets its contract: each key in its turn. The invariant: the keys before k have answered.
-- Assumes nothing.
use mathlib.Core.Path.{refl, ◌∙◌, ap}
use native.Mathlib.Omega.{arith}
use native.Mathlib.Nat.{le_antisymm}
use lib.ListN.{length}
use Rattle.kbm.specs.Middle.{counted}
use Rattle.scl.specs.Table.{item_table, items_in}
use Rattle.pitch.specs.Answers.{says_pitch}
use Rattle.tuning.specs.Run.{step_said, sounded_to, numbers_to}
use Rattle.tuning.proofs.Run.{sounded_to_length, numbers_to_length, hz_turn, numbers_turn}
use Rattle.tuning.proofs.key_pitches.fill.Goals as goal

pub loop-k-init : goal.loop-k-init
unfolding sounded_to numbers_to
loop-k-init c = (omega arith, refl, refl)

pub run_pitch-answer-requires : goal.run_pitch-answer-requires
run_pitch-answer-requires c = (c.requires.0, c.requires.1)

pub store-requires : goal.store-requires
store-requires c = (
  omega (
    arith,
    c.requires.2,
    c.loop-k-test.true,
    (ap length c.loop-k.invariant.1 ∙ sounded_to_length (let table = item_table c.args.items.now.kinds c.args.items.now.cents c.args.items.now.numers c.args.items.now.denoms in
        let items = items_in c.args.count table in
        step_said items (counted c.args.counting c.args.kbm) c.args.map.now (says_pitch c.args.root) c.args.first) c.loop-k.k c.args.hz.now),
  ),
  omega (
    arith,
    c.requires.3,
    c.loop-k-test.true,
    (ap length c.loop-k.invariant.2 ∙ numbers_to_length (let table = item_table c.args.items.now.kinds c.args.items.now.cents c.args.items.now.numers c.args.items.now.denoms in
        let items = items_in c.args.count table in
        step_said items (counted c.args.counting c.args.kbm) c.args.map.now (says_pitch c.args.root) c.args.first) c.loop-k.k c.args.numbers.now),
  ),
)

pub loop-k-preserved : goal.loop-k-preserved
loop-k-preserved c = (
  omega (arith, c.loop-k-test.true),
  hz_turn (let table = item_table c.args.items.now.kinds c.args.items.now.cents c.args.items.now.numers c.args.items.now.denoms in
      let items = items_in c.args.count table in
      step_said items (counted c.args.counting c.args.kbm) c.args.map.now (says_pitch c.args.root) c.args.first) c.loop-k.k c.run_pitch-answer.ensures c.args.hz.now c.loop-k.invariant.1 c.store.ensures.0,
  numbers_turn (let table = item_table c.args.items.now.kinds c.args.items.now.cents c.args.items.now.numers c.args.items.now.denoms in
      let items = items_in c.args.count table in
      step_said items (counted c.args.counting c.args.kbm) c.args.map.now (says_pitch c.args.root) c.args.first) c.loop-k.k c.run_pitch-answer.ensures c.args.numbers.now c.loop-k.invariant.2 c.store.ensures.1,
)

pub shape_of-hz : goal.shape_of-hz
shape_of-hz c =
    rw c.loop-k.invariant.1 (sounded_to_length (let table = item_table c.args.items.now.kinds c.args.items.now.cents c.args.items.now.numers c.args.items.now.denoms in
    let items = items_in c.args.count table in
    step_said items (counted c.args.counting c.args.kbm) c.args.map.now (says_pitch c.args.root) c.args.first) c.loop-k.k c.args.hz.now)

pub shape_of-numbers : goal.shape_of-numbers
shape_of-numbers c =
    rw c.loop-k.invariant.2 (numbers_to_length (let table = item_table c.args.items.now.kinds c.args.items.now.cents c.args.items.now.numers c.args.items.now.denoms in
    let items = items_in c.args.count table in
    step_said items (counted c.args.counting c.args.kbm) c.args.map.now (says_pitch c.args.root) c.args.first) c.loop-k.k c.args.numbers.now)

pub returns : goal.returns
returns c =
    let end = le_antisymm c.loop-k.invariant.0 c.loop-k-test.false in
    (rw end at c.loop-k.invariant.1, rw end at c.loop-k.invariant.2)
