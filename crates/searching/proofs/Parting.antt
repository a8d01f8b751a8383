-- The place that parts a list: "Its start is the first entry not below the target" (document 01, "Scales and searches"). Assumes nothing.
use mathlib.Core.Path.{◌≡◌, refl, subst}
use mathlib.Core.Bool.{Bool, true, false}
use mathlib.Core.Logic.{◌⊎◌, inl, inr}
use mathlib.Core.List.{List, [], ◌∷◌}
use Prim.Native.Nat.{ℕ, zero, suc, ◌-◌, ◌≤◌, ◌<◌}
use native.Mathlib.Nat.{eq-or-lt_of_le}
use native.Mathlib.Omega.{arith}
use lib.Dec.{eqb, ltb}
use lib.ListN.{length, get_or, length-map}
use lib.Ieee.{Float, nan, lt}
use borrow.Author.Tests.{eqb-true, eqb-false, ltb-true, ltb-false}
use Rattle.base.specs.Said.{pick}
use Rattle.floats.specs.Ranges.{in_reach}
use Rattle.sorting.specs.Entries.{Entry}
use Rattle.sorting.specs.Stable.{NeverFalls}
use Rattle.sorted.specs.Lent.{ratios_of, AllInReach, first_not_below}
use Rattle.sorted.proofs.Search.{le_le}
use Rattle.sorted.proofs.Theorems.{below_before, not_below_at}
use Rattle.sorted.proofs.Usable.{reach_positive}
use Rattle.searching.specs.Nearest.{ratio_at, Parts}
use Rattle.searching.specs.Search.{upper_of}

-- the ratio at a place of the list, in its column
pub ratio_at_law : (es : List Entry) (k : ℕ) → get_or (ratios_of es) k nan ≡ ratio_at es k
ratio_at_law [] k = refl
ratio_at_law (e ∷ es) zero = refl
ratio_at_law (e ∷ es) (suc k) = ratio_at_law es k

-- every entry before the upper neighbour is below the target, and none from it on is, but at the list's ends
module _ (es : List Entry) (target : Float) (a : AllInReach (ratios_of es)) (f : NeverFalls (ratios_of es)) (t : in_reach target ≡ true) (two : 1 < length es) where
  abbrev rs : List Float
  rs = ratios_of es

  abbrev n : ℕ
  n = first_not_below rs target

  size : length rs ≡ length es
  size = length-map es (λ (e : Entry). e.ratio)

  low : (k : ℕ) → k < n → lt (ratio_at es k) target ≡ true
  low k l = subst (λ (x : Float). lt x target ≡ true) (ratio_at_law es k) (below_before rs target k l)

  high : (k : ℕ) → n ≤ k → k < length es → lt (ratio_at es k) target ≡ false
  high k l h = subst (λ (x : Float). lt x target ≡ false) (ratio_at_law es k) (go (eq-or-lt_of_le l))
    where
      go : (n ≡ k) ⊎ (n < k) → lt (get_or rs k nan) target ≡ false
      go (inl e) = subst (λ (j : ℕ). lt (get_or rs j nan) target ≡ false) e (not_below_at rs target (omega (arith, size, e, h)))
      go (inr m) =
          let nl : n < length rs = omega (arith, size, m, h) in
          let kl : k < length rs = omega (arith, size, h) in
          le_le (get_or rs n nan) (get_or rs k nan) target (reach_positive _ (a n nl)) (reach_positive _ (a k kl)) (reach_positive target t) (not_below_at rs target nl) (f n k m kl)

  parts_of : (x y : Bool) → eqb n 0 ≡ x → ltb (length es - 1) n ≡ y → Parts es target (pick x 1 (pick y (length es - 1) n))
  parts_of true y e h = record { some = omega arith; last = omega (arith, two); before = λ k l m. absurd (omega (arith, l)); from = λ k l m. high k (let z = eqb-true n 0 e in omega (arith, z)) }
  parts_of false true e h = let l = ltb-true (length es - 1) n h in record { some = omega (arith, two); last = omega arith; before = λ k o m. low k (omega (arith, l, m)); from = λ k o. absurd (omega (arith, o)) }
  parts_of false false e h =
      let l = ltb-false (length es - 1) n h in
      let z = eqb-false n 0 e in
      record { some = omega (arith, z); last = l; before = λ k o m. low k m; from = λ k o m. high k m }

  pub parts : Parts es target (upper_of es target)
  parts = parts_of (eqb n 0) (ltb (length es - 1) n) refl refl
