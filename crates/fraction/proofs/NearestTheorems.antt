-- What a user of `nearest_fraction` may count on, with the sentences of document 01, "Scales and searches". Assumes nothing.
use mathlib.Core.Path.{◌≡◌, refl, sym, ap, ◌∙◌, subst}
use mathlib.Core.Bool.{true, false}
use Prim.Native.Nat.{ℕ, ◌+◌, ◌-◌, ◌≤◌}
use lib.Dec.{lit≤}
use lib.IntN.{ℤ}
use lib.Ieee.{Float, binary64, fits, div}
use Rattle.base.specs.Said.{Said, gives, refuses, and_then}
use Rattle.base.proofs.Said.{same_value}
use Rattle.floats.specs.Floats.{floor, count}
use Rattle.floats.specs.Ranges.{in_reach, in_search}
use Rattle.floats.proofs.Between.{within_more, within_reach}
use Rattle.floats.proofs.Ranges.{Within}
use Rattle.explog.specs.Rules.{L}
use Rattle.math.specs.OddPart.{halved_while_even}
use Rattle.fraction.specs.NearestFraction.{fraction, widest, turns, walked, float_of, both_over, turn_at, turn_of, best_for, nearest_fraction, no_fraction, InLimit}
use Rattle.pitch.specs.Ratios.{upward}
use Rattle.fraction.specs.declared.NearestFraction.{NearestFraction}
use Rattle.fraction.specs.declared.Walk.{Walk}
use Rattle.fraction.proofs.NearestAnswers.{BeforeWalk, before_walk, proper_within, deviation_reach, middle_proper, counted}
use Rattle.fraction.proofs.States.{Counted, state_walked}
use Rattle.fraction.proofs.WalkEnds.{walked_end}

-- "gives 10 for a ratio outside 2^-64..2^64"
pub nearest_refuses : (r : Float) (limit : ℕ) → in_search r ≡ false → nearest_fraction r limit ≡ refuses 10 0
unfolding nearest_fraction
nearest_refuses r limit h = rw h

-- "and else follows its loop": it answers, and nothing on the way gives 18
pub nearest_answers : (r : Float) (limit : ℕ) → fits binary64 r ≡ true → in_search r ≡ true → (q : NearestFraction) × (nearest_fraction r limit ≡ gives q)
nearest_answers r limit f s = let d = before_walk r f s in (best_for (div binary64 r d.power) d.whole limit, d.nearest_is limit)

-- the walk ends where it starts
pub walk_limit_zero : (target : Float) → walked turns widest target 0 ≡ widest
unfolding turn_of turn_at both_over halved_while_even
walk_limit_zero target = walked_end target 0 (turns - 1) widest widest refl

best_limit_zero : (target : Float) (octaves : ℤ) → best_for target octaves 0 ≡ no_fraction octaves
unfolding best_for
best_limit_zero target octaves = rw (walk_limit_zero target)

-- the call, for every ratio in the range; its octaves are the whole part of its logarithm
pub limit_zero : (r : Float) → fits binary64 r ≡ true → in_search r ≡ true →
    (n : ℤ) × ((and_then (L r) (λ octaves. count (floor octaves)) ≡ gives n) × (nearest_fraction r 0 ≡ gives (no_fraction n)))
limit_zero r f s =
    let d = before_walk r f s in (
      d.whole,
      (
        ap (λ (a : Said Float). and_then a (λ octaves. count (floor octaves))) d.log_is ∙ d.count_is,
        d.nearest_is 0 ∙ ap (λ (q : NearestFraction). gives q) (best_limit_zero (div binary64 r d.power) d.whole),
      ),
    )

-- ---- "A computed pitch or ratio outside 2^-900..2^900 gives 18 at that step": none of the walk does
-- the power of two and the target; and after any number of turns the deviation from the fraction in the middle, and the
-- same upwards
pub steps_in_reach : (r : Float) → fits binary64 r ≡ true → in_search r ≡ true → (d : BeforeWalk r) × ((in_reach d.power ≡ true) × (in_reach (div binary64 r d.power) ≡ true))
steps_in_reach r f s = let d = before_walk r f s in (d, (within_reach (within_more (lit≤ tt) (lit≤ tt) d.power_within), within_reach (within_more (lit≤ tt) (lit≤ tt) d.target_within)))

pub walk_in_reach : {r : Float} (d : BeforeWalk r) (limit k n m : ℕ) →
    (let w = walked k widest (div binary64 r d.power) limit in
    let deviation = div binary64 (div binary64 r d.power) (float_of (fraction n m)) in
    n ≡ w.low.numer + w.high.numer → m ≡ w.low.denom + w.high.denom → n ≤ 65535 → m ≤ 65535 → (in_reach deviation ≡ true) × (in_reach (upward deviation) ≡ true))
walk_in_reach {r} d limit k n m p q h g =
    let target = div binary64 r d.power in
    deviation_reach target (fraction n m) d.target_within (middle_proper (state_walked target limit k) n m p q h g)

-- and that fraction itself, as a ratio
pub middle_in_reach : {r : Float} (d : BeforeWalk r) (limit k n m : ℕ) →
    (let w = walked k widest (div binary64 r d.power) limit in
    n ≡ w.low.numer + w.high.numer → m ≡ w.low.denom + w.high.denom → n ≤ 65535 → m ≤ 65535 → in_reach (float_of (fraction n m)) ≡ true)
middle_in_reach {r} d limit k n m p q h g =
    within_reach (within_more (lit≤ tt) (lit≤ tt) (proper_within (fraction n m) (middle_proper (state_walked (div binary64 r d.power) limit k) n m p q h g)))

answers_best : (target : Float) (octaves : ℤ) (limit : ℕ) → 1 ≤ limit → Within 128 128 target → InLimit limit (best_for target octaves limit)
unfolding best_for
answers_best target octaves limit l t = go (walked turns widest target limit) (counted target limit l t).best
  where
    go : (w : Walk) → Counted target limit w.best w.deviation → InLimit limit (record { numer = w.best.numer; denom = w.best.denom; deviation = record { 0 = w.deviation }; num_octaves = octaves })
    go w c = record { proper = c.proper; within = c.within; deviation = ap in_reach c.deviation ∙ (deviation_reach target w.best t c.proper).0 }

pub nearest_within : (r : Float) (limit : ℕ) (q : NearestFraction) → fits binary64 r ≡ true → in_search r ≡ true → 1 ≤ limit → nearest_fraction r limit ≡ gives q → InLimit limit q
nearest_within r limit q f s l h =
    let d = before_walk r f s in
    subst (InLimit limit) (same_value _ _ (sym (d.nearest_is limit) ∙ h)) (answers_best (div binary64 r d.power) d.whole limit l d.target_within)
