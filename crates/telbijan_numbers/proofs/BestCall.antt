-- What a caller of `telbijan_ratio_best_fraction` may count on, of the call itself: document 02, W14. Assumes nothing.
use mathlib.Core.Path.{◌≡◌, refl, sym, ◌∙◌, subst}
use mathlib.Core.Logic.{◌⊎◌, inl, inr}
use mathlib.Core.Bool.{true, false}
use Prim.Native.Nat.{ℕ, ◌^◌}
use native.Mathlib.Omega.{arith}
use lib.Ieee.{Float}
use Rattle.base.specs.Said.{Said, gives, refuses}
use Rattle.floats.specs.Ranges.{in_search}
use Rattle.floats.specs.Units.{units_of}
use Rattle.best.specs.Answers.{deviation_of, BestSaid}
use Rattle.best.specs.Best.{Best}
use Rattle.best.specs.declared.BestFraction.{BestFraction}
use Rattle.best.proofs.Theorems.{none_best}
use Rattle.telbijan_answers.specs.Details.{Undetailed}
use Rattle.telbijan_numbers.specs.Calls.{RatioBestFraction}

-- what can be said: a value, 10 or 29, with detail 0
pub best_fraction_said : {x : Float} {limit : ℕ} {s : Said BestFraction} → BestSaid x limit s →
    ((f : BestFraction) × (s ≡ gives f)) ⊎ ((s ≡ refuses 10 0) ⊎ (s ≡ refuses 29 0))
best_fraction_said (BestSaid.outside h) = inr (inl refl)
best_fraction_said (BestSaid.none h e) = inr (inr refl)
best_fraction_said (BestSaid.found h f b) = inl (f, refl)

pub best_fraction_undetailed : {x : Float} {limit : ℕ} {s : Said BestFraction} → BestSaid x limit s → Undetailed s
best_fraction_undetailed (BestSaid.outside h) = Undetailed.number
best_fraction_undetailed (BestSaid.none h e) = Undetailed.number
best_fraction_undetailed (BestSaid.found h f b) = Undetailed.value f

module _ {value : Float} {limit oldNumer oldDenom : ℕ} {oldDeviation : Float} {r numer denom : ℕ} {deviation : Float} where
  -- AN ACCEPTED CALL: what is stored is the best of all, and the deviation from it
  pub best_stored : RatioBestFraction value limit oldNumer oldDenom oldDeviation r numer denom deviation → r ≡ 0 →
      Best (units_of value) (2 ^ 1074) limit numer denom × (deviation ≡ deviation_of value numer denom)
  best_stored (_, BestSaid.outside h, a, n, d, v) zero = absurd (omega (arith, a, zero))
  best_stored (_, BestSaid.none h e, a, n, d, v) zero = absurd (omega (arith, a, zero))
  best_stored (_, BestSaid.found h f b, a, n, d, v) zero = (
    subst (λ (x : ℕ). Best (units_of value) (2 ^ 1074) limit x denom) (sym n)
        (subst (λ (y : ℕ). Best (units_of value) (2 ^ 1074) limit f.numer y) (sym d) b.best),
    v ∙ b.deviation ∙ (λ i. deviation_of value (sym n i) (sym d i)),
  )

  -- A REFUSED CALL leaves all three as they were
  pub best_refused : RatioBestFraction value limit oldNumer oldDenom oldDeviation r numer denom deviation → (r ≡ 0 → ⊥) →
      (numer ≡ oldNumer) × (denom ≡ oldDenom) × (deviation ≡ oldDeviation)
  best_refused (_, BestSaid.outside h, a, n, d, v) refused = (n, d, v)
  best_refused (_, BestSaid.none h e, a, n, d, v) refused = (n, d, v)
  best_refused (_, BestSaid.found h f b, a, n, d, v) refused = absurd (refused a)

  -- the result is 10 exactly outside the range, 29 exactly for limit 0 inside it, else 0
  pub best_results : RatioBestFraction value limit oldNumer oldDenom oldDeviation r numer denom deviation →
      ((in_search value ≡ false) × (r ≡ 10)) ⊎
      (((in_search value ≡ true) × (limit ≡ 0) × (r ≡ 29)) ⊎ ((in_search value ≡ true) × (limit ≡ 0 → ⊥) × (r ≡ 0)))
  best_results (_, BestSaid.outside h, a, _, _, _) = inl (h, a)
  best_results (_, BestSaid.none h e, a, _, _, _) = inr (inl (h, e, a))
  best_results (_, BestSaid.found h f b, a, _, _, _) = inr (inr (h, (λ e. none_best e b), a))
