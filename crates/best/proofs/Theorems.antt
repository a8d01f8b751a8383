-- What a user of `best_fraction` may count on, with the sentences of document 02, W14. Assumes nothing.
use Rattle.std.specs.Prelude.{Result}
use Rattle.base.specs.declared.Refusal.{Refusal}
use mathlib.Core.Path.{◌≡◌, refl, sym, ap, ◌∙◌, subst}
use mathlib.Core.Logic.{◌⊎◌, ◌↔◌}
use mathlib.Core.Bool.{true, false}
use Prim.Native.Nat.{ℕ, ◌*◌, ◌^◌, ◌≤◌, ◌<◌}
use native.Mathlib.Omega.{arith}
use lib.Dec.{lit<, lit≤}
use lib.Ieee.{Float}
use Rattle.base.specs.Said.{Said, gives, refuses, outcome}
use Rattle.base.proofs.Said.{no_value, no_refusal, same_refuses, same_value, one_said}
use Rattle.base.proofs.Pick.{true_not_false}
use Rattle.floats.specs.Ranges.{in_reach, in_search}
use Rattle.floats.specs.Units.{units_of}
use Rattle.floats.proofs.Between.{fraction_within, over_within, within_more, within_reach}
use Rattle.floats.proofs.Ranges.{search_says}
use Rattle.best.specs.Answers.{deviation_of, BestOf, BestSaid}
use Rattle.best.specs.Best.{Allowed, NoFurther}
use Rattle.best.specs.declared.BestFraction.{BestFraction}
use Rattle.best.proofs.Choice.{best_one}
use Rattle.best.proofs.Values.{none_allowed, no_common, met}

-- ---- one answer
same_fraction : {x : Float} {limit : ℕ} (f g : BestFraction) → BestOf x limit f → BestOf x limit g → f ≡ g
same_fraction {x} f g p q =
    let e = best_one _ _ _ _ _ _ _ p.best q.best in
    let d : f.deviation.0 ≡ g.deviation.0 = p.deviation ∙ (λ i. deviation_of x (e.0 i) (e.1 i)) ∙ sym q.deviation in
    λ i. record { numer = e.0 i; denom = e.1 i; deviation = record { 0 = d i } }

-- with limit 0 there is none
pub none_best : {x : Float} {limit : ℕ} {f : BestFraction} → limit ≡ 0 → BestOf x limit f → ⊥
none_best {f = f} e b = none_allowed (subst (λ (l : ℕ). Allowed l f.numer) e b.best.numer)

pub said_one : {x : Float} {limit : ℕ} {s t : Said BestFraction} → BestSaid x limit s → BestSaid x limit t → s ≡ t
said_one (BestSaid.outside h) (BestSaid.outside k) = refl
said_one (BestSaid.outside h) (BestSaid.none k e) = absurd (true_not_false (sym k ∙ h))
said_one (BestSaid.outside h) (BestSaid.found k f b) = absurd (true_not_false (sym k ∙ h))
said_one (BestSaid.none h e) (BestSaid.outside k) = absurd (true_not_false (sym h ∙ k))
said_one (BestSaid.none h e) (BestSaid.none k d) = refl
said_one (BestSaid.none h e) (BestSaid.found k f b) = absurd (none_best e b)
said_one (BestSaid.found h f a) (BestSaid.outside k) = absurd (true_not_false (sym h ∙ k))
said_one (BestSaid.found h f a) (BestSaid.none k e) = absurd (none_best e a)
said_one (BestSaid.found h f a) (BestSaid.found k g b) = ap (λ (q : BestFraction). gives q) (same_fraction f g a b)

pub best_fraction_one : (x : Float) (limit : ℕ) (r s : (Result BestFraction Refusal)) → BestSaid x limit (outcome r) → BestSaid x limit (outcome s) → r ≡ s
best_fraction_one x limit r s p q = one_said (outcome s) r s (said_one p q) refl

-- ---- "Refusals: 10 as in the old call, then 29, no fraction, exactly for limit 0"
pub ten_exactly : {x : Float} {limit : ℕ} {s : Said BestFraction} → BestSaid x limit s → (s ≡ refuses 10 0) ↔ (in_search x ≡ false)
ten_exactly (BestSaid.outside h) = (λ _. h, λ _. refl)
ten_exactly (BestSaid.none h e) = (λ k. absurd (let z = (same_refuses k).0 in omega (arith, z)), λ k. absurd (true_not_false (sym h ∙ k)))
ten_exactly (BestSaid.found h f b) = (λ k. no_refusal k, λ k. absurd (true_not_false (sym h ∙ k)))

pub twenty_nine_exactly : {x : Float} {limit : ℕ} {s : Said BestFraction} → BestSaid x limit s →
    (s ≡ refuses 29 0) ↔ ((in_search x ≡ true) × (limit ≡ 0))
twenty_nine_exactly (BestSaid.outside h) =
    (λ k. absurd (let z = (same_refuses k).0 in omega (arith, z)), λ k. absurd (true_not_false (sym k.0 ∙ h)))
twenty_nine_exactly (BestSaid.none h e) = (λ _. (h, e), λ _. refl)
twenty_nine_exactly (BestSaid.found h f b) = (λ k. no_refusal k, λ k. absurd (none_best k.1 b))

-- any other ratio and limit is answered
pub answered : {x : Float} {limit : ℕ} {s : Said BestFraction} → BestSaid x limit s → in_search x ≡ true → 1 ≤ limit →
    (f : BestFraction) × (s ≡ gives f)
answered (BestSaid.outside h) k l = absurd (true_not_false (sym k ∙ h))
answered (BestSaid.none h e) k l = absurd (omega (arith, e, l))
answered (BestSaid.found h f b) k l = (f, refl)

-- ---- what is answered
best_of : {x : Float} {limit : ℕ} {s : Said BestFraction} {f : BestFraction} → BestSaid x limit s → s ≡ gives f →
    (in_search x ≡ true) × BestOf x limit f
best_of (BestSaid.outside h) e = no_value e
best_of (BestSaid.none h z) e = no_value e
best_of {x} {limit} (BestSaid.found h g b) e = (h, subst (BestOf x limit) (same_value _ _ e) b)

module _ {x : Float} {limit : ℕ} {s : Said BestFraction} {f : BestFraction} (said : BestSaid x limit s) (is : s ≡ gives f) where
  given : BestOf x limit f
  given = (best_of said is).1

  -- it is one of "all fractions with numerator and denominator from 1 to 65,535 whose odd parts are within the limit"
  pub is_allowed : Allowed limit f.numer × Allowed limit f.denom
  is_allowed = (given.best.numer, given.best.denom)

  -- "Show that nothing closer exists"
  pub nothing_closer : (p q : ℕ) → Allowed limit p → Allowed limit q → NoFurther (units_of x) (2 ^ 1074) f.numer f.denom p q
  nothing_closer = given.best.nearest

  -- "ties go to the smaller denominator, then the smaller numerator"
  pub ties_later : (p q : ℕ) → Allowed limit p → Allowed limit q → NoFurther (units_of x) (2 ^ 1074) p q f.numer f.denom →
      (f.denom < q) ⊎ ((f.denom ≡ q) × (f.numer ≤ p))
  ties_later = given.best.ties

  -- so it is in lowest terms
  pub lowest_terms : (g n d : ℕ) → f.numer ≡ g * n → f.denom ≡ g * d → g ≡ 1
  lowest_terms g n d p q = no_common _ _ limit _ _ given.best g n d p q

  -- and a ratio that is a fraction of these is answered by that
  pub met_exactly : (p q : ℕ) → Allowed limit p → Allowed limit q → units_of x * q ≡ 2 ^ 1074 * p →
      units_of x * f.denom ≡ 2 ^ 1074 * f.numer
  met_exactly p q a b e = met _ _ limit _ _ given.best (lit< tt) p q a b e

  -- the deviation is a usable ratio: no 18 is called for
  pub deviation_in_reach : in_reach f.deviation.0 ≡ true
  deviation_in_reach =
      let n = given.best.numer in
      let d = given.best.denom in
      ap in_reach given.deviation
      ∙ within_reach (within_more {a = 80} {b = 80} (lit≤ tt) (lit≤ tt)
      (over_within {a = 64} {b = 64} {c = 16} {d = 16} (lit≤ tt) (lit≤ tt) (search_says x (best_of said is).0)
      (fraction_within _ _ n.some n.held d.some d.held)))
