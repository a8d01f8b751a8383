-- The walk of `nearest_fraction` ends: with each turn that goes on, the fractions it is between grow. Assumes nothing.
use Rattle.std.specs.declared.ops.ControlFlow.{ControlFlow}
use Rattle.std.specs.declared.ops.ControlFlow.TheVariants.{Continue, Break}
use mathlib.Core.Path.{◌≡◌, refl, sym, ◌∙◌, subst}
use mathlib.Core.Logic.{◌⊎◌, inl, inr}
use mathlib.Core.Bool.{Bool, true, false}
use Prim.Native.Nat.{ℕ, zero, suc, ◌+◌, ◌-◌, ◌≤◌, ◌<◌}
use native.Mathlib.Omega.{arith}
use lib.Dec.{ltb}
use lib.Ieee.{Float, binary64, div, lt}
use Rattle.base.specs.Said.{pick}
use Rattle.fraction.specs.NearestFraction.{fraction, walk_of, widest, turns, float_of, both_over, improved, passed, turn_at, turn_of, walked}
use Rattle.fraction.specs.declared.Fraction.{Fraction}
use Rattle.fraction.specs.declared.Walk.{Walk}
use Rattle.fraction.proofs.States.{Between, InU16, Kept, improved_keeps, State, Any, after, state_start, state_step_any}

-- what the two fractions add up to
unfoldable pub size : Walk → ℕ
size w = w.low.numer + w.low.denom + (w.high.numer + w.high.denom)

held_size : {w : Walk} → InU16 w → size w ≤ 262140
unfolding size
held_size h = omega (arith, h.low_numer, h.low_denom, h.high_numer, h.high_denom)

-- a turn that goes on grows
pub record Grown (w next : Walk) : Type 0 where
  pub more : size w < size next
  pub between : Between next

on_is : {x y : Walk} → ◌≡◌ {A = ControlFlow Walk Walk} (Continue x) (Continue y) → x ≡ y
on_is e = cc

no_end : {x y : Walk} → ◌≡◌ {A = ControlFlow Walk Walk} (Break x) (Continue y) → ⊥
no_end e = let z : ◌≡◌ {A = ℕ} 0 1 = cc in omega arith

passed_on : (w : Walk) (mid : Fraction) (target : Float) {next : Walk} → passed w mid target ≡ Continue next →
    (walk_of w.low mid w.best w.deviation ≡ next) ⊎ (walk_of mid w.high w.best w.deviation ≡ next)
unfolding passed
passed_on w mid target {next} = go (lt target (float_of mid)) (lt (float_of mid) target)
  where
    go : (a b : Bool) → pick a (Continue (walk_of w.low mid w.best w.deviation)) (pick b (Continue (walk_of mid w.high w.best w.deviation)) (Break w)) ≡ Continue next →
        (walk_of w.low mid w.best w.deviation ≡ next) ⊎ (walk_of mid w.high w.best w.deviation ≡ next)
    go true b e = inl (on_is e)
    go false true e = inr (on_is e)
    go false false e = absurd (no_end e)

module _ (w : Walk) (b : Between w) where
  mid : Fraction
  mid = fraction (w.low.numer + w.high.numer) (w.low.denom + w.high.denom)

  lower : (better next : Walk) → Kept w better → walk_of better.low mid better.best better.deviation ≡ next → Grown w next
  unfolding mid size
  lower better next k e = subst (Grown w) e (rw k.low (record { more = omega (arith, b.low); between = record { low = b.low; high = omega (arith, b.high) } }))

  higher : (better next : Walk) → Kept w better → walk_of mid better.high better.best better.deviation ≡ next → Grown w next
  unfolding mid size
  higher better next k e = subst (Grown w) e (rw k.high (record { more = omega (arith, b.high); between = record { low = omega (arith, b.low); high = b.high } }))

  turned : (target : Float) (limit : ℕ) {next : Walk} → turn_at w mid target limit ≡ Continue next → Grown w next
  unfolding turn_at
  turned target limit {next} = go (both_over mid limit)
    where
      better : Walk
      better = improved w mid (div binary64 target (float_of mid)) limit

      go : (t : Bool) → pick t (Break w) (passed better mid target) ≡ Continue next → Grown w next
      go true e = absurd (no_end e)
      go false e = elim (passed_on better mid target e) [
        | inl is ↦ lower better next (improved_keeps w mid _ limit) is
        | inr is ↦ higher better next (improved_keeps w mid _ limit) is
      ]

  pub grows : (target : Float) (limit : ℕ) {next : Walk} → turn_of w target limit ≡ Continue next → Grown w next
  unfolding turn_of mid
  grows target limit {next} = go (ltb 65535 (w.low.numer + w.high.numer)) (ltb 65535 (w.low.denom + w.high.denom))
    where
      go : (a c : Bool) → pick a (Break w) (pick c (Break w) (turn_at w mid target limit)) ≡ Continue next → Grown w next
      go true c e = absurd (no_end e)
      go false true e = absurd (no_end e)
      go false false e = turned target limit e

-- ---- the loop's state: the walk from its widest comes to what is left of it from here, and turns enough are left
pub record Walking (target : Float) (limit : ℕ) (w : Walk) : Type 0 where
  pub left : ℕ
  pub enough : turns ≤ left + size w
  pub small : size w ≤ 262140
  pub between : Between w
  pub same : walked turns widest target limit ≡ walked left w target limit

module _ (target : Float) (limit : ℕ) where
  pub walking_start : Walking target limit widest
  unfolding size
  walking_start = record { left = turns; enough = omega arith; small = omega arith; between = record { low = omega arith; high = omega arith }; same = refl }

  walked_on : (k : ℕ) (w next : Walk) → turn_of w target limit ≡ Continue next → walked (suc k) w target limit ≡ walked k next target limit
  unfolding walked
  walked_on k w next e = rw e

  pub walked_end : (k : ℕ) (w last : Walk) → turn_of w target limit ≡ Break last → walked (suc k) w target limit ≡ last
  unfolding walked
  walked_end k w last e = rw e

  pub walking_on : {w next : Walk} → Walking target limit w → turn_of w target limit ≡ Continue next → size next ≤ 262140 → Walking target limit next
  walking_on {w} {next} s e small = go s.left s.enough s.same
    where
      grown : Grown w next
      grown = grows w s.between target limit e

      go : (k : ℕ) → turns ≤ k + size w → walked turns widest target limit ≡ walked k w target limit → Walking target limit next
      go zero m q = absurd (omega (arith, s.small))
      go (suc k) m q = record { left = k; enough = omega (arith, grown.more); small = small; between = grown.between; same = q ∙ walked_on k w next e }

  pub walking_end : {w last : Walk} → Walking target limit w → turn_of w target limit ≡ Break last → last ≡ walked turns widest target limit
  walking_end {w} {last} s e = go s.left s.enough s.same
    where
      go : (k : ℕ) → turns ≤ k + size w → walked turns widest target limit ≡ walked k w target limit → last ≡ walked turns widest target limit
      go zero m q = absurd (omega (arith, s.small))
      go (suc k) m q = sym (q ∙ walked_end k w last e)

  -- each turn that goes on is one fewer
  pub walking_less : {w next : Walk} → Walking target limit w → turn_of w target limit ≡ Continue next → size next ≤ 262140 → 262140 - size next < 262140 - size w
  walking_less {w} s e small = omega (arith, (grows w s.between target limit e).more)

-- ---- the turns are enough: what the two fractions hold stays within 16 bits, so that a walk cannot grow for ever
module _ (target : Float) (limit : ℕ) where
  step_cases : (w : Walk) → ((next : Walk) × (turn_of w target limit ≡ Continue next)) ⊎ ((last : Walk) × (turn_of w target limit ≡ Break last))
  step_cases w = go (turn_of w target limit) refl
    where
      go : (s : (ControlFlow Walk Walk)) → turn_of w target limit ≡ s → ((next : Walk) × (turn_of w target limit ≡ Continue next)) ⊎ ((last : Walk) × (turn_of w target limit ≡ Break last))
      go (Continue next) e = inl (next, e)
      go (Break last) e = inr (last, e)

  -- two walks with turns enough end alike
  settled : (k j : ℕ) (w : Walk) → State Any w → 262141 ≤ k + size w → 262141 ≤ j + size w → walked k w target limit ≡ walked j w target limit
  settled zero j w t p q = absurd (omega (arith, held_size t.held))
  settled (suc k) zero w t p q = absurd (omega (arith, held_size t.held))
  settled (suc k) (suc j) w t p q = elim (step_cases w) [
    | inl s ↦
        let g = grows w t.between target limit s.1 in
        let on = subst (λ (e : (ControlFlow Walk Walk)). State Any (after e)) s.1 (state_step_any target limit w t) in
        walked_on target limit k w s.0 s.1 ∙ settled k j s.0 on (omega (arith, g.more)) (omega (arith, g.more)) ∙ sym (walked_on target limit j w s.0 s.1)
    | inr s ↦ walked_end target limit k w s.0 s.1 ∙ sym (walked_end target limit j w s.0 s.1)
  ]

  -- the walk from its widest has ended after so many turns: more change nothing
  pub walk_ends : (more : ℕ) → walked (turns + more) widest target limit ≡ walked turns widest target limit
  unfolding size
  walk_ends more = settled (turns + more) turns widest state_start (omega arith) (omega arith)
