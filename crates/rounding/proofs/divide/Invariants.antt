-- The quotient has 54 binary digits, and n * 2 ^ steps is q * e + rest with rest below e.
-- Invariant: that equation, with q below 2 ^ 54 and at most 113 steps. Measure: 120 - steps.
use Rattle.std.proofs.Common.{◌≡◌, ◌+◌, ◌-◌, ◌*◌, ◌^◌, ◌<◌, ◌≤◌, sym, ◌∙◌, ⊎_elim, mod-lt, div-lt_iff_lt-mul, div-add-mod', mul-one, arith}
use Rattle.rounding.proofs.Steps.{step_none, step_one, few_steps}
use Rattle.rounding.proofs.divide.Given as goal

abbrev pub invariant-loop-q : goal.invariant-loop-q
invariant-loop-q l = (l.n * 2 ^ l.steps ≡ l.q * l.e + l.rest) × (l.rest < l.e) × (l.q < 2 ^ 54) × (l.steps ≤ 113)

abbrev pub decreases-loop-q : goal.decreases-loop-q
decreases-loop-q l = 120 - l.steps
