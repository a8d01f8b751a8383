-- The quotient has 54 binary digits, and n * 2 ^ steps is q * e + rest with rest below e.
-- Invariant: that equation, with q below 2 ^ 54 and at most 113 steps. Measure: 120 - steps.
use Rattle.std.proofs.Common.{◌≡◌, ◌+◌, ◌-◌, ◌*◌, ◌^◌, ◌<◌, ◌≤◌, sym, ◌∙◌, ⊎_elim, mod-lt, div-lt_iff_lt-mul, div-add-mod', mul-one, arith}
use Rattle.rounding.proofs.Steps.{step_none, step_one, few_steps}
use Rattle.rounding.proofs.divide.Goals as goal
use Rattle.rounding.proofs.divide.Goals.{In-loop-q, then-twice-e, else-twice-e}

few : (c : In-loop-q) → c.loop-q.steps < 113
few c =
    few_steps c.args.n c.loop-q.steps c.loop-q.q c.args.e c.loop-q.rest c.requires.0 c.requires.2 c.loop-q.invariant.0 c.loop-q.invariant.1 c.loop-q-test.true

pub loop-q-init : goal.loop-q-init
loop-q-init c = (mul-one _ ∙ sym (div-add-mod' _ _), mod-lt _ c.requires.1, (div-lt_iff_lt-mul c.requires.1).1 c.requires.3, omega arith)

pub overflow_mul-twice : goal.overflow_mul-twice
overflow_mul-twice c = omega arith

pub overflow_mul-q : goal.overflow_mul-q
overflow_mul-q c = omega arith

pub overflow_mul-q-else-twice-e : goal.overflow_mul-q-else-twice-e
overflow_mul-q-else-twice-e c = omega arith

pub overflow_add-q : goal.overflow_add-q
overflow_add-q c = omega arith

pub overflow_add-steps : goal.overflow_add-steps
overflow_add-steps c = omega arith

pub loop-q-smaller : goal.loop-q-smaller
loop-q-smaller c = omega (arith, few (goal.at.loop-q-smaller c).In-loop-q)

pub loop-q-preserved : goal.loop-q-preserved
loop-q-preserved c =
    let k = few (goal.at.loop-q-preserved c).In-loop-q in
    elim c.if-twice-e.branch [
      | then-twice-e w ↦ (
        rw (w.q-is, w.rest-is) (step_none c.args.n c.loop-q.steps c.loop-q.q c.args.e c.loop-q.rest c.loop-q.invariant.0),
        omega (arith, w.rest-is, w.if-twice-e.true),
        omega (arith, w.q-is),
        omega arith,
      )
      | else-twice-e w ↦ (
        rw (w.q-is, w.rest-is) (step_one c.args.n c.loop-q.steps c.loop-q.q c.args.e c.loop-q.rest c.loop-q.invariant.0 w.if-twice-e.false),
        omega (arith, w.rest-is, w.if-twice-e.false),
        omega (arith, w.q-is),
        omega arith,
      )
    ]

pub returns : goal.returns
returns c =
    record {
      exact = c.loop-q.invariant.0;
      small = c.loop-q.invariant.1;
      low = c.loop-q-test.false;
      high = c.loop-q.invariant.2;
      few = omega arith;
    }
