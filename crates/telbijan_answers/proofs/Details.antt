-- A value, or a refusal of detail 0: through a test and a step, and of the steps that many calls take. Assumes nothing.
use mathlib.Core.Path.{◌≡◌}
use mathlib.Core.Bool.{Bool, true, false}
use native.Mathlib.Omega.{arith}
use lib.Ieee.{Float}
use lib.IntN.{ℤ}
use Rattle.base.specs.Integers.{held}
use Rattle.base.specs.Said.{Said, pick, and_then}
use Rattle.explog.specs.Rules.{E, L}
use Rattle.pitch.specs.Ratios.{as_cents}
use Rattle.scl.specs.Items.{ratio_of}
use Rattle.scl.specs.declared.Item.{Item}
use Rattle.scl.specs.declared.Item.TheVariants.{Cents, Fraction}
use Rattle.telbijan_answers.specs.Interface.{result, detail_in}
use Rattle.telbijan_answers.specs.Details.{Undetailed}

pub undetailed_pick : {A : Type 0} (b : Bool) {x y : Said A} → Undetailed x → Undetailed y → Undetailed (pick b x y)
undetailed_pick true p q = p
undetailed_pick false p q = q

pub undetailed_then : {A B : Type 0} {s : Said A} {f : A → Said B} → Undetailed s → ((a : A) → Undetailed (f a)) → Undetailed (and_then s f)
undetailed_then (Undetailed.value a) m = m a
undetailed_then Undetailed.number m = Undetailed.number

pub ruleset steps = (undetailed_pick, undetailed_then, Undetailed.value, Undetailed.number)

pub held_undetailed : (z : ℤ) → Undetailed (held z)
unfolding held
held_undetailed z = search steps

pub exp_undetailed : (x : Float) → Undetailed (E x)
unfolding E
exp_undetailed x = search steps

pub log_undetailed : (x : Float) → Undetailed (L x)
unfolding L
log_undetailed x = search steps

pub as_cents_undetailed : (x : Float) → Undetailed (as_cents x)
as_cents_undetailed x = search (steps, log_undetailed) depth 12

pub as_ratio_undetailed : (i : Item) → Undetailed (ratio_of i)
as_ratio_undetailed (Cents c) = search (steps, exp_undetailed) depth 12
as_ratio_undetailed (Fraction n d) = search steps

-- and in C: the detail that a caller takes from a result is 0
pub result_undetailed : {A : Type 0} {s : Said A} → Undetailed s → detail_in (result s) ≡ 0
result_undetailed (Undetailed.value a) = omega arith
result_undetailed (Undetailed.number {n}) = omega arith
